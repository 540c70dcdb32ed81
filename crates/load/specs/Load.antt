-- R17, loading a book (refusals 50, 51, 52): the answer and the storage afterwards, for every book,
-- displacement and storage.
use Rattle.std.specs.Prelude.{ℕ, ◌+◌, min, List, [], ◌∷◌, Bool, true, ◌≡◌, length, ltb, eqb, Option, Some, None, Result, Ok, Err}
use Rattle.std.proofs.lemmas.List.Edits.{sets}
use Rattle.values.specs.Tests.{pick}
use Rattle.values.specs.Values.{moved_by}
use Rattle.values.specs.declared.Displacement.{Displacement}
use Rattle.book.specs.Book.{Record, Book, book_of}
use Rattle.book.specs.Records.{record_of}
use Rattle.book.specs.declared.record.Record.{Record as Lent}
use Rattle.fields.specs.Fields.{moved_text, over_field}
use Rattle.load.specs.declared.Stored.{Stored}
use Rattle.load.specs.declared.LoadError.{LoadError}
use Rattle.load.specs.declared.LoadError.TheVariants.{Broken, Outside, Over}
use Rattle.values.specs.declared.Relocatable.{Relocatable}

-- STORING

-- R17.2: where a record's text goes
abbrev pub moved_address : Displacement → Record → Option Relocatable
moved_address d r = moved_by d (record { 0 = r.address })

-- a text stored there; where the address is over, the record is refused before it comes to that
abbrev pub stored_at : Option Relocatable → List ℕ → List ℕ → List ℕ
stored_at (Some a) text m = sets m a.0 text
stored_at None text m = m

-- R17.2: one record, its fields moved, laid over storage at its place moved
unfoldable pub stored : Displacement → Record → List ℕ → List ℕ
stored d r m = stored_at (moved_address d r) (moved_text d r) m

-- R17.2: all of them in order
unfoldable pub stored_all : Displacement → List Record → List ℕ → List ℕ
stored_all d [] m = m
stored_all d (r ∷ rs) m = stored_all d rs (stored d r m)

-- R17.9: the bytes stored: the sum of all texts
unfoldable pub bytes_stored : List Record → ℕ
bytes_stored [] = 0
bytes_stored (r ∷ rs) = length r.text + bytes_stored rs

-- REFUSALS

-- R17.8: the card of the first record that fails a test; 0, which is no card, where none does
unfoldable pub first_card : (Record → Bool) → List Record → ℕ
first_card fails [] = 0
first_card fails (r ∷ rs) = pick (fails r) r.card (first_card fails rs)

-- what a closure gives of a lent record is what a test says of it
abbrev pub Answers : (Lent → Bool → Type 0) → (Record → Bool) → Type 0
Answers gives test = (r : Lent) (b : Bool) → gives r b → b ≡ test (record_of r)

-- R17.3: how much of storage counts
abbrev pub room_in : List ℕ → ℕ
room_in m = min (length m) 65536

-- R17.5: 51, a text of so many bytes outside so many bytes of storage; an address that is over is outside any
abbrev pub outside_at : Option Relocatable → ℕ → ℕ → Bool
outside_at (Some a) size room = ltb room (a.0 + size)
outside_at None size room = true

abbrev pub outside : Displacement → ℕ → Record → Bool
outside d room r = outside_at (moved_address d r) (length r.text) room

-- THE WHOLE

-- what comes of a load: the answer, and the storage
pub record Outcome : Type 0 where
  pub answer : Result Stored LoadError
  pub storage : List ℕ

-- R17.8: a refusal changes nothing
abbrev pub refused : LoadError → List ℕ → Outcome
refused why m = record { answer = Err why; storage = m }

abbrev pub accepted : Displacement → List Record → List ℕ → Option Relocatable → Outcome
accepted d rs m e = record { answer = Ok (record { bytes = bytes_stored rs; entry = e }); storage = stored_all d rs m }

-- R17.7: 52 with card 0, where the entry, moved, is over
abbrev pub judged_moved : Option Relocatable → Displacement → List Record → List ℕ → Outcome
judged_moved (Some e) d rs m = accepted d rs m (Some e)
judged_moved None d rs m = refused (Over 0) m

abbrev pub judged_entry : Option Relocatable → Displacement → List Record → List ℕ → Outcome
judged_entry None d rs m = accepted d rs m None
judged_entry (Some e) d rs m = judged_moved (moved_by d e) d rs m

-- R17.4: 51 over the whole book, then 52 over the whole book
unfoldable pub judged : Option Relocatable → Displacement → List Record → List ℕ → Outcome
judged e d rs m =
    let out = first_card (outside d (room_in m)) rs in
    let over = first_card (over_field d) rs in
    pick (eqb out 0) (pick (eqb over 0) (judged_entry e d rs m) (refused (Over over) m)) (refused (Outside out) m)

-- R17.4: 50 before these
abbrev pub of_book : Option Book → Displacement → List ℕ → Outcome
of_book None d m = refused Broken m
of_book (Some b) d m = judged b.entry d b.records m

unfoldable pub loading : List ℕ → Displacement → List ℕ → Outcome
loading s d m = of_book (book_of s) d m
