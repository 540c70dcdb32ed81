-- R16.10: what the readers of a book answer.
use Rattle.std.specs.Prelude.{ℕ, ◌+◌, ◌≤◌, List, [], ◌≡◌, true, length, eqb, Option, Some, None, Result, Ok, Err}
use Rattle.values.specs.Tests.{pick}
use Rattle.values.specs.Words.{part}
use Rattle.book.specs.declared.Cursor.{Cursor}
use Rattle.book.specs.declared.Place.{Place}
use Rattle.book.specs.Book as B
use Rattle.book.specs.Book.{Book, book_of, fields_fit, header_ok, entry_at, record_ok, record_head, card_at, address_at, count_at, size_at, text_at, next_at}
use Rattle.values.specs.declared.Relocatable.{Relocatable}
use Rattle.book.specs.declared.Broken.{Broken}

-- where the parts of the record at a place stand
abbrev pub place_at : List ℕ → ℕ → Place
place_at s at =
    record {
      card = card_at s at;
      address = record { 0 = address_at s at };
      fields = at + record_head;
      count = count_at s at;
      text = text_at s at;
      size = size_at s at;
    }

-- the record whose parts stand there
abbrev pub record_there : List ℕ → Place → B.Record
record_there s p =
    record {
      card = p.card;
      address = p.address.0;
      fields = part s p.fields p.count;
      text = part s p.text p.size;
    }

-- the place behind a record, and its card
abbrev pub behind : List ℕ → ℕ → Cursor
behind s at = record { at = next_at s at; card = card_at s at }

abbrev pub broken : Broken
broken = record {}

-- the record whose parts stand at a place, and the cursor behind it
abbrev pub found : Place → Cursor → Result (Option (Place × Cursor)) Broken
found p c = Ok (Some (p, c))

-- R16.10: one step: the record at a place, the end, or a broken layout
unfoldable pub step_at : List ℕ → ℕ → ℕ → Result (Option (Place × Cursor)) Broken
step_at s at last = pick (eqb at (length s)) (Ok None) (pick (record_ok s at last) (found (place_at s at) (behind s at)) (Err broken))

abbrev pub header_of : List ℕ → Result (Option Relocatable) Broken
header_of s = pick (header_ok s) (Ok (entry_at s)) (Err broken)

abbrev pub layout_in : Option Book → Result (Option Relocatable) Broken
layout_in None = Err broken
layout_in (Some b) = Ok b.entry

-- R16.8: whether a list of bytes keeps the layout of a book, and then its entry
unfoldable pub layout_of : List ℕ → Result (Option Relocatable) Broken
layout_of s = layout_in (book_of s)

-- the book keeps its layout
abbrev pub Kept : List ℕ → Type 0
Kept s = (e : Option Relocatable) × (Ok e ≡ layout_of s)

abbrev pub records_or : Option Book → List B.Record
records_or None = []
records_or (Some b) = b.records

-- the records of a book; no records where it breaks its layout
unfoldable pub records_in : List ℕ → List B.Record
records_in s = records_or (book_of s)

-- what holds of the place of a record that a reader gave
pub record Sound (s : List ℕ) (p : Place) : Type 0 where
  pub fields : p.fields + p.count ≤ length s
  pub text : p.text + p.size ≤ length s
  pub long : 1 ≤ p.size
  pub short : p.size ≤ 256
  pub few : p.count ≤ 128
  pub card : (1 ≤ p.card) × (p.card ≤ 4000)
  pub high : p.address.0 + p.size ≤ 65536
  pub inside : fields_fit 0 p.size (part s p.fields p.count) ≡ true
