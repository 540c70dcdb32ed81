-- A letter stands inside the columns.
use native.Mathlib.Omega.{arith}
use Rattle.std.proofs.Common.{sym, ap, ◌∙◌}
use Rattle.letters.specs.Letters.{class_of, is_accepted}
use Rattle.letters.proofs.Laws.{inside-accepted}
use Rattle.terms.proofs.read_term.Goals as goal

pub read_lettered-requires : goal.read_lettered-requires
read_lettered-requires c =
    omega
    (arith, inside-accepted c.args.s.now c.args.at (ap is_accepted (sym (c.class_of.ensures ∙ ap class_of c.byte_at-b.ensures) ∙ c.in-Letter.is)))
