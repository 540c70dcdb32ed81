-- The name of a line: the value that a place has, a new name, its room in the table.
use Prim.Native.Nat.{ℕ, ◌<◌}
use mathlib.Core.List.{List, ◌∷◌, []}
use mathlib.Core.Path.{◌≡◌, refl}
use types.Run.{OneOf, miss}
use denote.Enum.Declared.{tag_of}
use Rattle.values.specs.declared.Value.{Value}
use Rattle.values.specs.declared.Value.TheVariants.{Relocatable}
use Rattle.names.specs.declared.Name.{Name}
use Rattle.names.specs.Names.{defined}
use Rattle.names.specs.Table.{names_in}
use Rattle.names.proofs.Names.{refusal_none}
use Rattle.names.proofs.Table.{names-length}
use Rattle.operations.specs.declared.traits.Role.{Role}
use Rattle.operations.specs.declared.traits.Role.TheVariants.{Starts, Equates, SetsCounter, Ends, Advances}
use Rattle.operations.specs.contracts.traits.Role.{the_type}
use Rattle.lines.specs.declared.Line.{Line}
use Rattle.passes.specs.Cards.{name_value_by, name_length_by}
use Rattle.passes.specs.One.{most_names}
use Rattle.defining.specs.Entering.{place_by, Enters, entered_by}
use Rattle.std.specs.Prelude.{Option, Some, None}

-- but for EQU a name stands for a place
pub placed : (r : Role) (v : Option Value) (counter : ℕ) (l : Line) → OneOf (0 ∷ 2 ∷ 3 ∷ 4 ∷ []) (tag_of the_type r)
    → name_value_by r v counter l ≡ Some (Relocatable (record { 0 = place_by r counter l.shape }))
placed Starts v counter l k = refl
placed Equates v counter l k = absurd (miss (0 ∷ 2 ∷ 3 ∷ 4 ∷ []) 1 tt k)
placed SetsCounter v counter l k = refl
placed Ends v counter l k = refl
placed Advances v counter l k = refl

-- a name that has a value is a name more, one without leaves the names
module _ (names : List Name) (r : Role) (v : Option Value) (counter : ℕ) (l : Line) (name : ℕ) (named : l.name ≡ Some name) where
  pub entered-new : (w : Value) (n : ℕ) → Some w ≡ name_value_by r v counter l → n ≡ name_length_by r l.operation l.shape
      → defined (record { number = name; value = w; length = n }) names ≡ entered_by names r v counter l
  entered-new w n e f = rw (← e, f, named)

  pub entered-none : None ≡ name_value_by r v counter l → names ≡ entered_by names r v counter l
  entered-none e = rw (← e, named)

-- a name that may be entered has room in the table
pub enters_room : (count : ℕ) (t : List ℕ) (r : Role) (v : Option Value) (counter : ℕ) (l : Line) (name : ℕ) → Enters (names_in count t) r v counter l → l.name ≡ Some name → count < most_names
enters_room count t r v counter l name e named =
    let new = e.new in
    let few = (refusal_none most_names (names_in count t) name (rw named at new)).1 in
    rw (names-length count t) at few
