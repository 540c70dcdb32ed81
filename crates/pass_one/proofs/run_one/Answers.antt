-- `run_one` meets its contract: a turn takes the pass one card on, and behind the last card END has been or not.
use Rattle.std.proofs.Common.{◌≡◌, sym, ◌∙◌, arith}
use Rattle.passes.specs.One.{one_no}
use Rattle.pass_one.specs.Code.{stands_for}
use Rattle.pass_one.proofs.Laws.{passed_zero, ran_none, ran_more, ran_short}
use Rattle.pass_one.proofs.run_one.Goals as goal

pub loop-i-init : goal.loop-i-init
loop-i-init c = ran_none c.args.source.now c.args.table.now

pub loop-i-preserved : goal.loop-i-preserved
loop-i-preserved c =
    let l = c.loop-i in let s = c.step_one-p in let number = c.check_card-checked.ensures.number in
    let zero : one_no (stands_for l.p l.table) c.card-card.result.now ≡ 0 = sym (rw c.of.ensures at number) ∙ passed_zero _ c.in_ok-v.ensures.variant in
    ran_more l.invariant c.card-card.ensures (omega (arith, c.loop-i-test.true)) zero s.ensures.table_after.0 s.ensures.table_after.1 s.auto.table s.ensures.table_unchanged

pub returns-in_default-clause-table_after : goal.returns-in_default-clause-table_after
returns-in_default-clause-table_after c = ran_short c.loop-i.invariant (omega (arith, c.loop-i-test.false)) c.in_default.not-Ended c.at.ensures.0 c.at.ensures.1
