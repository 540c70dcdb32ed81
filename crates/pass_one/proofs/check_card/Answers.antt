-- `check_card` meets its contract: a statement's operand lies inside the card.
use Rattle.std.proofs.Common.{◌∙◌}
use Rattle.lines.proofs.Laws.{line-within}
use Rattle.pass_one.proofs.check_card.Goals as goal

pub check_line-requires : goal.check_line-requires
check_line-requires c = let w = line-within _ _ (c.requires ∙ c.in-Statement.is) in (w.operand, w.end)
