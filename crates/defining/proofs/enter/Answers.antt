-- `enter` meets its contract: a new name has room, and its value and length fit the record.
use Rattle.std.proofs.Common.{◌+◌, ◌*◌, ◌∙◌, arith}
use Rattle.names.specs.Table.{names_in}
use Rattle.names.proofs.Table.{rest_more}
use Rattle.defining.proofs.Laws.{enters_room, entered-new}
use Rattle.defining.proofs.enter.Goals as goal

pub define-requires : goal.define-requires
define-requires c =
    let a = c.args in let q = c.requires in
    let r = enters_room a.count a.table.now a.role a.v a.counter a.l _ q.enters c.in-Some.is in
    (omega arith, q.in_bounds.1, q.enters.number _ c.in-Some.is)

pub returns-clause-table_after : goal.returns-clause-table_after
returns-clause-table_after c =
    let a = c.args in
    let r = enters_room a.count a.table.now a.role a.v a.counter a.l _ c.requires.enters c.in-Some.is in
    let w = entered-new (names_in a.count a.table.now) a.role a.v a.counter a.l _ c.in-Some.is c.in-Some-name_value.value c.name_length-length.result c.in-Some-name_value.ensures c.name_length-length.ensures in
    (c.define.ensures.names ∙ w, omega arith)

pub returns-clause-table_unchanged : goal.returns-clause-table_unchanged
returns-clause-table_unchanged c =
    let a = c.args in
    let r = enters_room a.count a.table.now a.role a.v a.counter a.l _ c.requires.enters c.in-Some.is in
    rest_more (16 * a.count + 16) 8192 _ _ (omega arith) c.define.ensures.rest
