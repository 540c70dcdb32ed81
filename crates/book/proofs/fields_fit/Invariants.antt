-- The whole list fits if what is left of it does, from the least offset now.
use Rattle.std.proofs.Common.{drop, ◌≡◌}
use Rattle.book.specs.Book.{fields_fit}
use Rattle.book.proofs.fields_fit.Given as goal

abbrev pub invariant-loop-byte : goal.invariant-loop-byte
invariant-loop-byte l = fields_fit 0 l.size l.offsets ≡ fields_fit l.least l.size (drop l.byte-index l.offsets)
