-- The name of a line whose only expression came to v: its refusal 20, and the names behind the line.
use Rattle.std.specs.Prelude.{Some, ℕ, ◌<◌, ◌^◌, List, ◌≡◌, Option, Result}
use Rattle.values.specs.Tests.{pick}
use Rattle.names.specs.declared.Name.{Name}
use Rattle.names.specs.Names.{name_refusal}
use Rattle.lines.specs.declared.Line.{Line}
use Rattle.operations.specs.declared.traits.Role.{Role}
use Rattle.operations.specs.declared.traits.Role.TheVariants.{Starts, Equates, SetsCounter, Ends, Advances}
use Rattle.forms.specs.declared.Shape.{Shape}
use Rattle.forms.specs.Shape.{start_or}
use Rattle.passes.specs.Cards.{place_named, name_value_by, name_length_by}
use Rattle.passes.specs.One.{most_names, if_named, m_fits, over, defined_as, with_name}
use Rattle.values.specs.declared.Value.{Value}

-- the place that a name stands for; EQU's stands for none
abbrev pub place_by : Role → ℕ → Result Shape ℕ → ℕ
place_by Starts counter x = start_or x counter
place_by Equates counter x = counter
place_by SetsCounter counter x = counter
place_by Ends counter x = counter
place_by Advances counter x = place_named counter x

-- 20 of a name
abbrev pub over_by : Role → Option Value → ℕ → Line → ℕ
over_by r v counter l = pick (m_fits l.shape) (over (name_value_by r v counter l)) 0

-- a line whose name, where it has one, is new and fits its record
pub record Enters (names : List Name) (r : Role) (v : Option Value) (counter : ℕ) (l : Line) : Type 0 where
  pub new : if_named l.name (name_refusal most_names names) ≡ 0
  pub low : if_named l.name (λ name. over (name_value_by r v counter l)) ≡ 0
  pub short : name_length_by r l.operation l.shape < 65536
  pub number : (name : ℕ) → l.name ≡ Some name → name < 2 ^ 48

-- a name more, where the line has one
abbrev pub entered_by : List Name → Role → Option Value → ℕ → Line → List Name
entered_by names r v counter l =
    with_name l.name
    (λ name. defined_as name (name_value_by r v counter l) (name_length_by r l.operation l.shape) names)
    names
