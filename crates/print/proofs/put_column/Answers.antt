-- A turn writes the two digits of a byte.
use Rattle.std.proofs.Common.{arith, ◌∙◌, length-set}
use Rattle.print.proofs.Laws.{column_turn}
use Rattle.print.proofs.put_column.Goals as goal

pub loop-b-preserved : goal.loop-b-preserved
loop-b-preserved c =
    let a = c.args in
    let l = c.loop-b in
    record {
      place = omega arith;
      same_length = simp length-set l.invariant.same_length;
      left = l.invariant.left ∙ column_turn l.m l.at a.bytes.now l.b-index a.end _ _ (omega arith) c.digit-high.ensures c.digit-low.ensures;
    }
