-- What pass one's own types stand for, and what it looks at of a card's operand.
use Rattle.std.specs.Prelude.{ℕ, ◌≤◌, List, ◌≡◌, true, Option, None, Result, Ok, Err}
use Rattle.values.specs.declared.Value.{Value}
use Rattle.names.specs.declared.Meaning.{Meaning}
use Rattle.names.specs.declared.Name.{Name}
use Rattle.names.specs.Names.{ascending}
use Rattle.names.specs.Table.{names_in}
use Rattle.operations.specs.Traits.{role_of}
use Rattle.operations.specs.declared.traits.Role.{Role}
use Rattle.operations.specs.declared.traits.Role.TheVariants.{Starts, Equates, SetsCounter, Ends, Advances}
use Rattle.lines.specs.declared.Line.{Line}
use Rattle.lines.specs.declared.Reading.{Reading}
use Rattle.lines.specs.declared.Reading.TheVariants.{Comment, BadName, Statement}
use Rattle.passes.specs.declared.Refused.{Refused}
use Rattle.passes.specs.Cards.{value_at, counter_by}
use Rattle.passes.specs.One.{State, Passed, phase_after}
use Rattle.passes.specs.One.Passed.{through, stopped}
use Rattle.defining.specs.Entering.{entered_by}
use Rattle.pass_one.specs.declared.Pass.{Pass}

-- the state that a pass and the names stand for
abbrev pub state_of : Pass → List Name → State
state_of p names = record { counter = p.counter; names = names; phase = p.phase }

-- .. the names as the bytes of the table hold them
abbrev pub stands_for : Pass → List ℕ → State
stands_for p t = state_of p (names_in p.count t)

-- between two cards the names fit the table and stand in order, and the counter is not past 65536
pub record Fit (p : Pass) (t : List ℕ) : Type 0 where
  pub few : p.count ≤ 512
  pub low : p.counter ≤ 65536
  pub ordered : ascending (names_in p.count t) ≡ true

abbrev pub passed_as : Result Pass Refused → List ℕ → Passed
passed_as (Ok p) t = through (stands_for p t)
passed_as (Err r) t = stopped r.number r.card

-- WHAT PASS ONE LOOKS AT OF AN OPERAND: EQU's and ORG's value; of the other cards none

abbrev pub looked_at_by : Role → Option Value → Option Value
looked_at_by Starts v = None
looked_at_by Equates v = v
looked_at_by SetsCounter v = v
looked_at_by Ends v = None
looked_at_by Advances v = None

abbrev pub early_value : (ℕ → Option Meaning) → ℕ → List ℕ → Line → Option Value
early_value look counter s l = looked_at_by (role_of l.operation) (value_at look counter s l)

abbrev pub early_in : (ℕ → Option Meaning) → ℕ → List ℕ → Reading → Option Value
early_in look counter s Comment = None
early_in look counter s BadName = None
early_in look counter s (Statement l) = early_value look counter s l

-- BEHIND A CARD, over that value

abbrev pub line_step_by : State → Line → Option Value → State
line_step_by st l v = record {
  counter = counter_by (role_of l.operation) v st.counter l;
  names = entered_by st.names (role_of l.operation) v st.counter l;
  phase = phase_after (role_of l.operation) st.phase;
}
