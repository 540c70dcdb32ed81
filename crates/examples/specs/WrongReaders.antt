-- Two small books on which a reader that stands elsewhere, or forgets the card before, answers another record.
use Rattle.std.specs.Prelude.{ℕ, List, [], ◌∷◌, Option, Some, None, Result, Ok, Err}
use Rattle.book.specs.Writing.{book_bytes}
use Rattle.book.specs.declared.Broken.{Broken}
use Rattle.book.specs.declared.Place.{Place}
use Rattle.book.specs.declared.Cursor.{Cursor}

-- a book of two records, the second at 21, with their cards
unfoldable pub of_cards : ℕ → ℕ → List ℕ
of_cards card next =
    book_bytes
    (record {
      entry = None;
      records = record { card = card; address = 0; fields = 0 ∷ 2 ∷ []; text = 0 ∷ 1 ∷ 0 ∷ 2 ∷ [] } ∷ record { card = next; address = 0; fields = []; text = 0 ∷ 0xFF ∷ [] } ∷ [];
    })

-- the card of the record that a reader gives; 0, which is no card, where it gives none
abbrev pub card_given : Result (Option (Place × Cursor)) Broken → ℕ
card_given (Ok (Some (place, behind))) = place.card
card_given (Ok None) = 0
card_given (Err why) = 0
