-- R16.10: the records that a reader gives one after another.
use Rattle.std.specs.Prelude.{ℕ, zero, suc, List, [], ◌∷◌, length, eqb}
use Rattle.values.specs.Tests.{pick}
use Rattle.book.specs.Book.{Record, record_at, record_ok, next_at, card_at}
use Rattle.book.specs.Reading.{record_there}
use Rattle.book.specs.declared.record.Record.{Record as Lent}
use Rattle.book.specs.declared.record.Records.{Records}

-- the record that stands at its place of the lent book
abbrev pub record_of : Lent → Record
record_of r = record_there r.book.now r.place

-- the records from a place on, up to the end or the first broken one; the first number only bounds the recursion
unfoldable pub records_up_to : ℕ → List ℕ → ℕ → ℕ → List Record
records_up_to zero s at last = []
records_up_to (suc n) s at last =
    pick (eqb at (length s)) []
    (pick (record_ok s at last) (record_at s at ∷ records_up_to n s (next_at s at) (card_at s at)) [])

-- the records that a reader has still to give
abbrev pub records_left : Records → List Record
records_left r = records_up_to (length r.book.now) r.book.now r.cursor.at r.cursor.card
