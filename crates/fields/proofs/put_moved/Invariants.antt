-- The text is laid down; its fields from the one at hand on are still to move.
use Rattle.std.proofs.Common.{drop}
use Rattle.book.specs.Records.{record_of}
use Rattle.fields.proofs.Laws.{Moving}
use Rattle.fields.proofs.put_moved.Given as goal

abbrev pub invariant-loop-byte : goal.invariant-loop-byte
invariant-loop-byte l = Moving l.initial.m l.to l.d (record_of l.r) (drop l.byte-index (record_of l.r).fields) l.m
