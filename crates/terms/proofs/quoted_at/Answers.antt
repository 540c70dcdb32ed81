-- An accepted byte stands inside the columns.
use native.Mathlib.Omega.{arith}
use Rattle.std.proofs.Common.{sym, ap, ◌∙◌}
use Rattle.letters.specs.Letters.{class_of, is_accepted}
use Rattle.letters.proofs.Laws.{inside-accepted}
use Rattle.terms.proofs.quoted_at.Goals as goal

pub overflow_add-result-in_default : goal.overflow_add-result-in_default
overflow_add-result-in_default c =
    omega
    (arith, inside-accepted c.args.s.now c.args.at (sym (c.is_accepted.ensures ∙ ap is_accepted (c.class_of.ensures ∙ ap class_of c.byte_at-b.ensures)) ∙ c.if-is_accepted.true))
