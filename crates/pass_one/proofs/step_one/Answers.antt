-- `step_one` meets its contract: the counter and the names of a line that is let through.
use Rattle.std.proofs.Common.{◌≡◌, ◌∙◌, arith}
use Rattle.passes.specs.One.{step_one}
use Rattle.pass_one.specs.Code.{stands_for}
use Rattle.pass_one.proofs.Laws.{line_enters, line_steps, next_fits}
use Rattle.pass_one.proofs.step_one.Goals as goal

pub counter_by-requires : goal.counter_by-requires
counter_by-requires c =
    let a = c.args in let q = c.requires in let is = c.in-Statement.is in let looked = q.looked in
    omega (arith, (line_enters (stands_for a.p a.table.now) a.card.now _ a.v (q.read ∙ is) (rw is at looked) q.let_through).1)

pub enter-requires-clause-enters : goal.enter-requires-clause-enters
enter-requires-clause-enters c =
    let a = c.args in let q = c.requires in let is = c.in-Statement.is in let looked = q.looked in
    rw c.role_of-role.ensures (line_enters (stands_for a.p a.table.now) a.card.now _ a.v (q.read ∙ is) (rw is at looked) q.let_through).0

pub returns-in-Statement-clause-table_after : goal.returns-in-Statement-clause-table_after
returns-in-Statement-clause-table_after c =
    let a = c.args in let q = c.requires in let is = c.in-Statement.is in let looked = q.looked in let entered = c.enter.ensures.table_after in
    let step = line_steps (stands_for a.p a.table.now) a.card.now _ a.v (q.read ∙ is) (rw is at looked) in
    let after : stands_for (record { counter = c.counter_by.result; count = c.enter.result; phase = c.phase_after.result }) c.enter.new.table ≡ step_one (stands_for a.p a.table.now) a.card.now =
    rw (c.counter_by.ensures, entered.0, c.phase_after.ensures, c.role_of-role.ensures) step in
    (after, next_fits a.p _ a.table.now _ a.card.now q.let_through q.in_bounds.1 after entered.1)
