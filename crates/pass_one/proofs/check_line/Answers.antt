-- `check_line` meets its contract: 20 is judged over the value that was looked at.
use Rattle.std.proofs.Common.{rules}
use Rattle.values.specs.Tests.{or_else}
use Rattle.names.specs.Names.{find}
use Rattle.passes.specs.One.{value_no, line_no}
use Rattle.pass_one.proofs.Laws.{over_is}
use Rattle.pass_one.proofs.check_line.Goals as goal

pub returns-in_err-check_over-clause-number : goal.returns-in_err-check_over-clause-number
unfolding line_no value_no or_else
returns-in_err-check_over-clause-number c =
    let a = c.args in let is = over_is (find a.names.now) a.p.counter a.card.now a.l _ c.in_ok-v.ensures.value _ c.role_of-role.ensures in search (rules, is)

pub returns-in_err-check_sizes-clause-number : goal.returns-in_err-check_sizes-clause-number
unfolding line_no value_no or_else
returns-in_err-check_sizes-clause-number c =
    let a = c.args in let is = over_is (find a.names.now) a.p.counter a.card.now a.l _ c.in_ok-v.ensures.value _ c.role_of-role.ensures in search (rules, is)

pub returns-in_err-check_room-clause-number : goal.returns-in_err-check_room-clause-number
unfolding line_no value_no or_else
returns-in_err-check_room-clause-number c =
    let a = c.args in let is = over_is (find a.names.now) a.p.counter a.card.now a.l _ c.in_ok-v.ensures.value _ c.role_of-role.ensures in search (rules, is)

pub returns-clause-number : goal.returns-clause-number
unfolding line_no value_no or_else
returns-clause-number c =
    let a = c.args in let is = over_is (find a.names.now) a.p.counter a.card.now a.l _ c.in_ok-v.ensures.value _ c.role_of-role.ensures in search (rules, is)
