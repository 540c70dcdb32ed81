use Rattle.std.proofs.Common.{◌≡◌, ◌-◌, length}
use Rattle.expressions.specs.Form.{form_of, factors_at}
use Rattle.expressions.proofs.form.factors_form.Given as goal

-- the factors from here on end where the whole do
abbrev pub invariant-loop-q : goal.invariant-loop-q
invariant-loop-q l = form_of (factors_at l.s l.q) ≡ form_of (factors_at l.s l.at)

abbrev pub decreases-loop-q : goal.decreases-loop-q
decreases-loop-q l = length l.s - l.q
