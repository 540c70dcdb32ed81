use Rattle.std.proofs.Common.{◌≡◌, ◌-◌, length}
use Rattle.names.specs.Names.{find}
use Rattle.expressions.specs.Form.{factors_at}
use Rattle.expressions.specs.Steps.{held_on}
use Rattle.expressions.proofs.factors.Scope.multiply_on.Given as goal

-- what is held now with the factors left is what was held with all of them
abbrev pub invariant-loop-q : goal.invariant-loop-q
invariant-loop-q l =
    held_on (find l.self.names.now) l.self.here l.held (factors_at l.self.columns.now l.q)
    ≡ held_on (find l.self.names.now) l.self.here l.initial.held (factors_at l.self.columns.now l.at)

abbrev pub decreases-loop-q : goal.decreases-loop-q
decreases-loop-q l = length l.self.columns.now - l.q
