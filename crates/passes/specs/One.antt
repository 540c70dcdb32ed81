-- R13.2 to R13.4: pass one, its refusals on each card, and what it keeps between two cards.
use Rattle.std.specs.Prelude.{Some, None, Option, ℕ, ◌+◌, List, [], ◌∷◌, Bool, true, leb, eqb, Result}
use Rattle.values.specs.Tests.{pick, or_else}
use Rattle.values.specs.Values.{amount_of, with_value}
use Rattle.names.specs.declared.Name.{Name}
use Rattle.names.specs.declared.Meaning.{Meaning}
use Rattle.names.specs.Names.{find, defined, name_refusal}
use Rattle.cards.specs.Fields.{byte_no}
use Rattle.operations.specs.declared.Operation.{Operation}
use Rattle.operations.specs.declared.traits.Role.{Role}
use Rattle.operations.specs.declared.traits.Role.TheVariants.{Starts, Equates, SetsCounter, Ends, Advances}
use Rattle.operations.specs.Traits.{role_of, operation_no, name_no}
use Rattle.data.specs.Sizes.{length_fits, data_no}
use Rattle.forms.specs.declared.Shape.{Shape}
use Rattle.forms.specs.Shape.{of_data}
use Rattle.forms.specs.Size.{size_of}
use Rattle.operands.specs.declared.Operands.{Operands}
use Rattle.operands.specs.Kinds.{expressions_no}
use Rattle.lines.specs.declared.Line.{Line}
use Rattle.lines.specs.declared.Reading.{Reading}
use Rattle.lines.specs.declared.Reading.TheVariants.{Comment, BadName, Statement}
use Rattle.lines.specs.Lines.{reading_of, shape_no}
use Rattle.passes.specs.declared.Phase.{Phase}
use Rattle.passes.specs.declared.Phase.TheVariants.{Before, Within, Ended}
use Rattle.passes.specs.Cards.{operands_at, counter_after, name_value, name_length}
use Rattle.values.specs.declared.Value.{Value}

-- between two cards: the counter, the names defined, and whether START and END have been
pub record State : Type 0 where
  pub counter : ℕ
  pub names : List Name
  pub phase : Phase

-- before the first card
abbrev pub fresh : State
fresh = record { counter = 0; names = []; phase = Before }

-- REFUSALS

-- R12.3: 9, a card behind END
abbrev pub after_end_no : Phase → ℕ
after_end_no Before = 0
after_end_no Within = 0
after_end_no Ended = 9

-- R7.3: 13, no START first, or a second one
abbrev pub again_no : Role → ℕ
again_no Starts = 13
again_no Equates = 0
again_no SetsCounter = 0
again_no Ends = 0
again_no Advances = 0

abbrev pub missing_no : Role → ℕ
missing_no Starts = 0
missing_no Equates = 13
missing_no SetsCounter = 13
missing_no Ends = 13
missing_no Advances = 13

abbrev pub start_no : Phase → Role → ℕ
start_no Before r = missing_no r
start_no Within r = again_no r
start_no Ended r = again_no r

-- R3.4: how many names there may be
abbrev pub most_names : ℕ
most_names = 512

-- a rule for names, of a card that has one
abbrev pub if_named : Option ℕ → (ℕ → ℕ) → ℕ
if_named (Some name) rule = rule name
if_named None rule = 0

-- R7.7, R13.4: 18 to 20 of EQU and ORG, over the names of earlier cards
abbrev pub early_by : Role → Operation → Operands → ℕ
early_by Starts op x = 0
early_by Equates op x = expressions_no op x
early_by SetsCounter op x = expressions_no op x
early_by Ends op x = 0
early_by Advances op x = 0

unfoldable pub early_no : (ℕ → Option Meaning) → ℕ → List ℕ → Line → ℕ
early_no look counter s l = early_by (role_of l.operation) l.operation (operands_at look counter s l)

-- R13.7: m is in its range, or the card has none
abbrev pub m_fits : Result Shape ℕ → Bool
m_fits x = of_data x length_fits true

-- R3.7, R13.7: 20 of a name's value, where m is in its range
abbrev pub amount_over : ℕ → ℕ
amount_over n = pick (leb n 65535) 0 20

abbrev pub over : Option Value → ℕ
over v = with_value v (λ x. amount_over (amount_of x)) 0

unfoldable pub over_no : (ℕ → Option Meaning) → ℕ → List ℕ → Line → ℕ
over_no look counter s l = pick (m_fits l.shape) (over (name_value look counter s l)) 0

-- R13.4: 21 of DC and DS
abbrev pub sizes_no : Result Shape ℕ → ℕ
sizes_no x = of_data x data_no 0

-- R7.2: 24, bytes beyond 65536
abbrev pub room_no : ℕ → ℕ → ℕ
room_no counter size = pick (leb (counter + size) 65536) 0 24

-- R13.3: the lowest that holds of 16 to 24
unfoldable pub value_no : State → List ℕ → Line → ℕ
value_no st s l =
    or_else (if_named l.name (name_refusal most_names st.names))
    (or_else (early_no (find st.names) st.counter s l)
    (or_else (if_named l.name (λ name. over_no (find st.names) st.counter s l))
    (or_else (sizes_no l.shape) (room_no st.counter (size_of l.operation l.shape)))))

-- R13.3: 12 to 15 before them
unfoldable pub line_no : State → List ℕ → Line → ℕ
line_no st s l =
    or_else (operation_no l.operation)
    (or_else (start_no st.phase (role_of l.operation))
    (or_else (name_no l.operation l.name) (or_else (shape_no l.shape) (value_no st s l))))

-- R3.1: 11, a bad name
abbrev pub reading_no : State → List ℕ → Reading → ℕ
reading_no st s Comment = 0
reading_no st s BadName = 11
reading_no st s (Statement l) = line_no st s l

-- R13.3, R2.2: 9 before all others; then 10 over all statement columns
unfoldable pub one_no : State → List ℕ → ℕ
one_no st s = or_else (after_end_no st.phase) (or_else (byte_no s) (reading_no st s (reading_of s)))

-- WHAT A CARD DOES

-- R3.6: a name is defined where it has a value
abbrev pub defined_as : ℕ → Option Value → ℕ → List Name → List Name
defined_as number v length names = with_value v (λ x. defined (record { number = number; value = x; length = length }) names) names

-- a name more, where the line has one
abbrev pub with_name : Option ℕ → (ℕ → List Name) → List Name → List Name
with_name (Some name) more names = more name
with_name None more names = names

unfoldable pub names_after : State → List ℕ → Line → List Name
names_after st s l =
    with_name l.name
    (λ name. defined_as name (name_value (find st.names) st.counter s l) (name_length l.operation l.shape) st.names)
    st.names

abbrev pub phase_after : Role → Phase → Phase
phase_after Starts p = Within
phase_after Equates p = p
phase_after SetsCounter p = p
phase_after Ends p = Ended
phase_after Advances p = p

abbrev pub line_step : State → List ℕ → Line → State
line_step st s l = record {
  counter = counter_after (find st.names) st.counter s l;
  names = names_after st s l;
  phase = phase_after (role_of l.operation) st.phase;
}

abbrev pub reading_step : State → List ℕ → Reading → State
reading_step st s Comment = st
reading_step st s BadName = st
reading_step st s (Statement l) = line_step st s l

unfoldable pub step_one : State → List ℕ → State
step_one st s = reading_step st s (reading_of s)

-- THE PASS

-- through all cards, or stopped by a number of refusal at a card
pub data Passed : Type 0 where
  through : State → Passed
  stopped : ℕ → ℕ → Passed

-- R12.4: 9 with card 0 where END is missing
abbrev pub ended_as : Phase → State → Passed
ended_as Before st = stopped 9 0
ended_as Within st = stopped 9 0
ended_as Ended st = through st

-- the cards from card k on
unfoldable pub pass_one : ℕ → State → List (List ℕ) → Passed
pass_one k st [] = ended_as st.phase st
pass_one k st (s ∷ ss) = pick (eqb (one_no st s) 0) (pass_one (k + 1) (step_one st s) ss) (stopped (one_no st s) k)
