use Rattle.std.proofs.Common.{◌≡◌, ◌+◌, ◌-◌, ◌≤◌, false, length}
use Rattle.names.specs.Names.{find}
use Rattle.expressions.specs.Form.{products_at}
use Rattle.expressions.specs.Steps.{nothing, run_from}
use Rattle.expressions.proofs.factors.Scope.evaluate.Given as goal

-- no more relocatable terms than columns; and the sum so far with the products left is the whole
abbrev pub invariant-loop-h : goal.invariant-loop-h
invariant-loop-h l =
    (l.sum.plus + l.sum.minus ≤ l.p)
    × (run_from (find l.self.names.now) l.self.here l.sum (products_at l.minus l.self.columns.now l.p)
    ≡ run_from (find l.self.names.now) l.self.here nothing (products_at false l.self.columns.now l.at))

abbrev pub decreases-loop-h : goal.decreases-loop-h
decreases-loop-h l = length l.self.columns.now - l.p
