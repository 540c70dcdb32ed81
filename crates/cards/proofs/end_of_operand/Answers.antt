-- `end_of_operand` meets its contract: the operand's end from here, inside apostrophes or not, is its end from the start.
use Rattle.std.proofs.Common.{◌+◌, ◌-◌, length, sym, ap, ◌∙◌}
use Rattle.cards.specs.Fields.{operand_end}
use Rattle.cards.proofs.Laws.{operand-more}
use Rattle.cards.proofs.end_of_operand.Goals as goal

pub loop-i-preserved : goal.loop-i-preserved
loop-i-preserved c =
    ap (λ x. operand_end (length c.args.s.now - (c.loop-i.i + 1)) x c.args.s.now (c.loop-i.i + 1)) c.turned_at-inside.ensures
    ∙ sym (operand-more c.args.s.now c.loop-i.i c.loop-i.inside c.loop-i-test.true (sym c.if-ends_here.ensures))
    ∙ c.loop-i.invariant
