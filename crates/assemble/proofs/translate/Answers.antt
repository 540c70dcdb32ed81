-- `translate` meets its contract: what pass one comes to, and what pass two makes of its names.
use Rattle.std.proofs.Common.{arith}
use Rattle.names.proofs.Table.{names-length}
use Rattle.pass_two.specs.Code.{checked_in}
use Rattle.assemble.proofs.Ways.{passed-one, passed-fits}
use Rattle.assemble.proofs.translate.Goals as goal

pub of-requires : goal.of-requires
of-requires c =
    let fits = passed-fits _ _ c.in_ok-passed.ensures.table_after in let few = fits.2 in
    let count = names-length c.in_ok-passed.passed.count c.run_one.new.table in
    let kept = c.run_one.auto.table in
    (omega arith, fits.1)

pub finish-requires-clause-sound : goal.finish-requires-clause-sound
finish-requires-clause-sound c = (passed-fits _ _ c.in_ok-passed.ensures.table_after).0

pub finish-requires-clause-few : goal.finish-requires-clause-few
finish-requires-clause-few c = rw c.of.ensures (passed-fits _ _ c.in_ok-passed.ensures.table_after).2

pub returns-clause-value : goal.returns-clause-value
unfolding checked_in
returns-clause-value c =
    let value = c.finish.ensures.value in let out = c.finish.ensures.out_after in
    (passed-one _ _ c.args.work.now _ _ _ _ c.in_ok-passed.ensures.table_after (rw c.of.ensures at value) (rw c.of.ensures at out)).0

pub returns-clause-out_after : goal.returns-clause-out_after
unfolding checked_in
returns-clause-out_after c =
    let value = c.finish.ensures.value in let out = c.finish.ensures.out_after in
    (passed-one _ _ c.args.work.now _ _ _ _ c.in_ok-passed.ensures.table_after (rw c.of.ensures at value) (rw c.of.ensures at out)).1
