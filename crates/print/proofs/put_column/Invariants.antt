-- Writing the column is writing what is left of it, from the place now.
use Rattle.std.proofs.Common.{◌+◌, ◌*◌, ◌≡◌, length, drop}
use Rattle.std.proofs.lemmas.List.Edits.{sets}
use Rattle.print.specs.Print.{column}
use Rattle.print.proofs.put_column.Given as goal

abbrev pub invariant-loop-b : goal.invariant-loop-b
invariant-loop-b l = record {
  place : l.at ≡ l.to + 2 * l.b-index;
  same_length : length l.m ≡ length l.fn.m;
  left : sets l.fn.m l.to (column l.bytes l.end) ≡ sets l.m l.at (column (drop l.b-index l.bytes) l.end);
}
