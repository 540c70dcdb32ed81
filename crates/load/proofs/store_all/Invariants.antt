-- The whole storage and the whole count are those of the records left, from the storage and the count now.
use Rattle.book.specs.Records.{records_left}
use Rattle.load.proofs.Laws.{Storing}
use Rattle.load.proofs.store_all.Given as goal

abbrev pub invariant-loop-r : goal.invariant-loop-r
invariant-loop-r l = Storing l.book l.d l.fn.m l.m l.count (records_left l.r-iterator)
