-- How far each pass has got, and what names that only grow keep.
use Rattle.std.specs.Prelude.{◌∷◌, ◌≡◌}
use Rattle.theorems.specs.Logic.{ℕ, zero, suc, List, [], Option, Some}
use Rattle.theorems.specs.Types.{Value, Name, Meaning, Reading, Course, State, Passed, through, stopped}
use Rattle.names.specs.Names.{meaning, find}
use Rattle.forms.specs.Size.{size_of}
use Rattle.lines.specs.declared.Reading.TheVariants.{Comment, BadName, Statement}
use Rattle.lines.specs.Lines.{reading_of}
use Rattle.passes.specs.One.{fresh, step_one, pass_one}
use Rattle.passes.specs.Two.{outset, step_two}

-- what `look` says of a defined name, `more` says too: the same value and the same length
abbrev pub Keeps : (ℕ → Option Meaning) → (ℕ → Option Meaning) → Type 0
Keeps look more = (name : ℕ) (v : Value) (length : ℕ) → look name ≡ Some (meaning v length) → more name ≡ Some (meaning v length)

-- BEHIND SO MANY CARDS

-- where a walk over the cards stands behind the first n of them, the refusals set aside
unfoldable pub behind : {S : Type 0} → (S → List ℕ → S) → ℕ → S → List (List ℕ) → S
behind step zero st ss = st
behind step (suc n) st [] = st
behind step (suc n) st (s ∷ ss) = behind step n (step st s) ss

abbrev pub behind_one : ℕ → State → List (List ℕ) → State
behind_one = behind step_one

abbrev pub behind_two : (ℕ → Option Meaning) → ℕ → Course → List (List ℕ) → Course
behind_two look = behind (step_two look)

-- all names of a source that pass one goes through
abbrev pub names_by : Passed → List Name
names_by (through st) = st.names
names_by (stopped number card) = []

abbrev pub look_in : List (List ℕ) → ℕ → Option Meaning
look_in ss = find (names_by (pass_one 1 fresh ss))

-- the counter before card n + 1, in pass one and in pass two
abbrev pub counter_one : List (List ℕ) → ℕ → ℕ
counter_one ss n = (behind_one n fresh ss).counter

abbrev pub counter_two : List (List ℕ) → ℕ → ℕ
counter_two ss n = (behind_two (look_in ss) n outset ss).counter

-- the bytes of a card
abbrev pub reading_size : Reading → ℕ
reading_size Comment = 0
reading_size BadName = 0
reading_size (Statement l) = size_of l.operation l.shape

unfoldable pub card_size : List ℕ → ℕ
card_size s = reading_size (reading_of s)
