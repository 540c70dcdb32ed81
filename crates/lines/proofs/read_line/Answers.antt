-- `read_line` meets its contract: a statement's fields lie inside the card.
use Rattle.lines.proofs.Laws.{fields_within}
use Rattle.lines.proofs.read_line.Goals as goal

pub line_of-requires : goal.line_of-requires
line_of-requires c = fields_within _ _ _ c.read_card.ensures c.in-Statement.is
