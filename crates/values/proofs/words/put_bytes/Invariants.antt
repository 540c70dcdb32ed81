-- Storing the whole run is storing what is left of it, from the place that the loop has come to.
use Rattle.std.proofs.Common.{◌≡◌, ◌+◌, length, drop}
use Rattle.std.proofs.lemmas.List.Edits.{sets}
use Rattle.values.proofs.words.put_bytes.Given as goal

abbrev pub invariant-loop-i : goal.invariant-loop-i
invariant-loop-i l = record {
  same_length : length l.m ≡ length l.fn.m;
  run : sets l.fn.m l.at l.bytes ≡ sets l.m (l.at + l.i) (drop l.i l.bytes);
}
