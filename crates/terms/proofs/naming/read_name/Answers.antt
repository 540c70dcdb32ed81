-- A name that starts stands inside the columns.
use native.Mathlib.Omega.{arith}
use Rattle.std.proofs.Common.{sym, ap, ◌∙◌}
use Rattle.letters.specs.Letters.{starts_name}
use Rattle.terms.proofs.Laws.{inside-start}
use Rattle.terms.proofs.naming.read_name.Goals as goal

pub name_end-end-requires : goal.name_end-end-requires
name_end-end-requires c =
    omega
    (arith, inside-start c.args.s.now c.args.at (sym (c.starts_name.ensures ∙ ap starts_name c.class_at.ensures) ∙ c.if-not-starts_name.false))
