-- Writing all lines is writing those of the records left, from the place now, and there is room for them.
use Rattle.std.proofs.Common.{◌≡◌, ◌+◌, ◌≤◌, length}
use Rattle.std.proofs.lemmas.List.Edits.{sets}
use Rattle.book.specs.Reading.{records_in}
use Rattle.book.specs.Records.{records_left}
use Rattle.print.specs.Print.{record_lines}
use Rattle.print.proofs.put_records.Given as goal

abbrev pub invariant-loop-r : goal.invariant-loop-r
invariant-loop-r l = record {
  lines : sets l.fn.m l.to (record_lines (records_in l.book)) ≡ sets l.m l.at (record_lines (records_left l.r-iterator));
  room : l.at + length (record_lines (records_left l.r-iterator)) ≤ length l.m;
}
