use Rattle.std.proofs.Common.{◌≡◌, ◌-◌, length, Ok}
use Rattle.expressions.specs.Form.{form_of, expression_at}
use Rattle.expressions.proofs.Reading.{form_behind}
use Rattle.expressions.proofs.form.expression_form.Given as goal

-- what is behind the products so far ends where the whole does
abbrev pub invariant-loop-q : goal.invariant-loop-q
invariant-loop-q l = form_behind l.s (Ok l.q) ≡ form_of (expression_at l.s l.at)

abbrev pub decreases-loop-q : goal.decreases-loop-q
decreases-loop-q l = length l.s - l.q
