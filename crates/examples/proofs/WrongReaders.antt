-- A reader that stands elsewhere, or forgets the card before, doesn't meet the contracts of the reader: computed on two small books.
use mathlib.Core.Path.{◌≡◌, refl, sym, ap, ◌∙◌}
use native.Mathlib.Omega.{arith}
use Rattle.values.specs.Words.{word}
use Rattle.book.specs.Book.{fields_fit, fair, record_ok}
use Rattle.book.specs.Reading.{step_at}
use Rattle.book.specs.Writing.{record_bytes, records_bytes, book_bytes}
use Rattle.examples.specs.WrongReaders.{of_cards, card_given}

-- the first record; where the header stands there is none; the record at 21
first-is : card_given (step_at (of_cards 2 3) 8 0) ≡ 2
unfolding of_cards step_at record_ok fair fields_fit word record_bytes records_bytes book_bytes
first-is = refl

header_is : card_given (step_at (of_cards 2 3) 0 0) ≡ 0
unfolding of_cards step_at record_ok fair fields_fit word record_bytes records_bytes book_bytes
header_is = refl

second_is : card_given (step_at (of_cards 2 3) 21 2) ≡ 3
unfolding of_cards step_at record_ok fair fields_fit word record_bytes records_bytes book_bytes
second_is = refl

-- the same card again is no record, but for a reader that forgets
same-card-is : card_given (step_at (of_cards 2 2) 21 2) ≡ 0
unfolding of_cards step_at record_ok fair fields_fit word record_bytes records_bytes book_bytes
same-card-is = refl

forgotten_is : card_given (step_at (of_cards 2 2) 21 0) ≡ 2
unfolding of_cards step_at record_ok fair fields_fit word record_bytes records_bytes book_bytes
forgotten_is = refl

-- a reader at the header doesn't answer what one at the first record does
pub header_shows : step_at (of_cards 2 3) 0 0 ≡ step_at (of_cards 2 3) 8 0 → ⊥
header_shows e = omega (arith, sym header_is ∙ ap card_given e ∙ first-is)

-- nor one that stays at the first record what one at another place does
pub staying_shows : step_at (of_cards 2 3) 8 0 ≡ step_at (of_cards 2 3) 21 2 → ⊥
staying_shows e = omega (arith, sym first-is ∙ ap card_given e ∙ second_is)

-- nor one that forgets the card before what one that knows it does
pub forgetting_shows : step_at (of_cards 2 2) 21 0 ≡ step_at (of_cards 2 2) 21 2 → ⊥
forgetting_shows e = omega (arith, sym forgotten_is ∙ ap card_given e ∙ same-card-is)
