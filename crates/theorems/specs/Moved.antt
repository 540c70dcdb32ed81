-- Demand 3: what it asks of two decks, and a book moved by d.
use Rattle.std.specs.Prelude.{◌+◌, ◌∷◌, ◌++◌, ◌≡◌}
use Rattle.theorems.specs.Logic.{ℕ, List, map, Option, None, Some}
use Rattle.theorems.specs.Types.{Line, Displacement, Record, Book, Relocatable}
use Rattle.fields.specs.Fields.{moved_text}
use Rattle.operations.specs.declared.Operation.TheVariants.{Start}
use Rattle.lines.specs.declared.Reading.TheVariants.{Statement}
use Rattle.lines.specs.Lines.{reading_of}
use Rattle.forms.specs.Shape.{start_or}

-- R21.4: THE PREMISE of demand 3

-- a card that reads as START: its name, a number, or none, and its value (0 where its operand is absent)
pub record Starting (s : List ℕ) (called : Option ℕ) (at : ℕ) : Type 0 where
  pub line : Line
  pub reads : reading_of s ≡ Statement line
  pub operation : line.operation ≡ Start
  pub name : line.name ≡ called
  pub value : start_or line.shape 0 ≡ at

-- two decks of cards, each card its statement columns, that agree on every card but START's; there the names agree, and the values are s and s + d
pub record SameButStart (d : ℕ) (ss ts : List (List ℕ)) : Type 0 where
  pub before : List (List ℕ)
  pub after : List (List ℕ)
  pub first : List ℕ
  pub second : List ℕ
  pub name : Option ℕ
  pub start : ℕ
  pub lower : ss ≡ before ++ first ∷ after
  pub higher : ts ≡ before ++ second ∷ after
  pub starts : Starting first name start
  pub starts_higher : Starting second name (start + d)

-- A BOOK MOVED BY d, as the loader moves it: entry and addresses d higher, d added to the listed fields of every text

module _ (d : Displacement) where
  abbrev pub moved_record : Record → Record
  moved_record r = record { card = r.card; address = r.address + d.0; fields = r.fields; text = moved_text d r }

  abbrev pub moved_entry : Option Relocatable → Option Relocatable
  moved_entry None = None
  moved_entry (Some e) = Some (record { 0 = e.0 + d.0 })

  abbrev pub moved_book : Book → Book
  moved_book b = record { entry = moved_entry b.entry; records = map moved_record b.records }
