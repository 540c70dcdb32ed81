-- `make_line` meets its contract: its operand lies inside the card.
use Rattle.lines.proofs.Laws.{line-within}
use Rattle.making.proofs.make_line.Goals as goal

pub operands_at-x-requires : goal.operands_at-x-requires
operands_at-x-requires c = let w = line-within c.args.card.now c.args.l c.requires.0 in (w.operand, w.end)
