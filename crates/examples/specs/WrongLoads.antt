-- Wrong ways to store a book's records (R20.3), and one small book on which each shows.
use Rattle.std.specs.Prelude.{ℕ, ◌+◌, List, [], ◌∷◌, length, replicate, None}
use Rattle.values.specs.Words.{part}
use Rattle.values.specs.declared.Displacement.{Displacement}
use Rattle.book.specs.Book.{Record}
use Rattle.book.specs.Writing.{book_bytes}
use Rattle.fields.specs.Fields.{moved_in, moved_text}
use Rattle.load.specs.Load.{Outcome, moved_address, stored_at, stored, stored_all, loading}

-- FIELD LISTS APPLIED AFTER ALL TEXT

-- all text stored, no field moved
unfoldable pub laid_all : Displacement → List Record → List ℕ → List ℕ
laid_all d [] m = m
laid_all d (r ∷ rs) m = laid_all d rs (stored_at (moved_address d r) r.text m)

-- the bytes of storage over which a record's text was laid
abbrev pub laid_text : Displacement → Record → List ℕ → List ℕ
laid_text d r m = part m (r.address + d.0) (length r.text)

-- then each record's fields moved where they stand in storage
unfoldable pub moved_all : Displacement → List Record → List ℕ → List ℕ
moved_all d [] m = m
moved_all d (r ∷ rs) m = moved_all d rs (stored_at (moved_address d r) (moved_in d (laid_text d r m) r.fields (laid_text d r m)) m)

-- THE DISPLACEMENT ADDED TWICE

-- a record whose text has its fields moved already
abbrev pub moved_once : Displacement → Record → Record
moved_once d r = record { card = r.card; address = r.address; fields = r.fields; text = moved_text d r }

unfoldable pub stored_twice : Displacement → List Record → List ℕ → List ℕ
stored_twice d [] m = m
stored_twice d (r ∷ rs) m = stored_twice d rs (stored d (moved_once d r) m)

-- THE WAYS

-- the first record alone relocated
abbrev pub first_relocated : Displacement → List Record → List ℕ → List ℕ
first_relocated d [] m = m
first_relocated d (r ∷ rs) m = stored_all (record { 0 = 0 }) rs (stored d r m)

pub data Way : Type 0 where
  fields_after_text : Way
  first_alone : Way
  fields_twice : Way
  nothing : Way

-- storage afterwards, of a way
unfoldable pub stored_by : Way → Displacement → List Record → List ℕ → List ℕ
stored_by fields_after_text d rs m = moved_all d rs (laid_all d rs m)
stored_by first_alone d rs m = first_relocated d rs m
stored_by fields_twice d rs m = stored_twice d rs m
stored_by nothing d rs m = m

-- THE BOOK

-- two fields of two bytes each, and a record that overlays the first of them with a constant
abbrev pub records : List Record
records =
    record { card = 2; address = 0; fields = 0 ∷ 2 ∷ []; text = 0 ∷ 1 ∷ 0 ∷ 2 ∷ [] }
    ∷ record { card = 3; address = 0; fields = []; text = 0 ∷ 0xFF ∷ [] } ∷ []

abbrev pub by4 : Displacement
by4 = record { 0 = 4 }

abbrev pub storage : List ℕ
storage = replicate 8 0x55

unfoldable pub rightly : Outcome
rightly = loading (book_bytes (record { entry = None; records = records })) by4 storage
