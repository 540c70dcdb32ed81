-- `read_named` meets its contract: a name that was read ends inside the columns.
use Rattle.std.proofs.Common.{sym, subst}
use Rattle.terms.proofs.Within.{NameWithin, name-within}
use Rattle.cards.proofs.read_named.Goals as goal

pub read_fields-requires : goal.read_fields-requires
read_fields-requires c = (subst (NameWithin c.args.s.now 0) (sym c.in-Ok.ensures) (name-within c.args.s.now 0)).1
