-- The letters of the code's rows ascend, and are those of the list, each beside what the list says of it.
use Rattle.std.proofs.Common.{arith, rules, refl}
use Rattle.std.proofs.lemmas.List.Sorted.{answers_always}
use Rattle.mnemonics.specs.Sorted.{inserted, sorted, sorted_letters, sorted_operations}
use Rattle.mnemonics.specs.Rows.{letters_of, number5}
use Rattle.mnemonics.specs.Model10.{model10, own_operations, two_addresses, one_addresses, branches, jumps, extended_moves, extended_branches, extended_jumps}
use Rattle.mnemonics.proofs.Table.{sorted_rows, met, missed}
use Rattle.mnemonics.proofs.operation_of.Goals as goal

pub returns-in-Ok : goal.returns-in-Ok
unfolding sorted_rows sorted_letters sorted_operations sorted inserted model10 own_operations two_addresses one_addresses branches jumps extended_moves extended_branches extended_jumps letters_of number5
returns-in-Ok c =
    met sorted_rows refl refl c.args.letters c.in-Ok.i c.in-Ok.ensures.bound
    (c.in-Ok.ensures.position (λ y. y.0) (answers_always _ _ _ (λ f a r g called. search rules)))

pub returns-in-Err : goal.returns-in-Err
unfolding sorted_rows sorted_letters sorted_operations sorted inserted model10 own_operations two_addresses one_addresses branches jumps extended_moves extended_branches extended_jumps letters_of number5
returns-in-Err c =
    missed sorted_rows refl refl c.args.letters (omega arith) (search rules) c.in-Err.field-0
    (c.in-Err.ensures.position (λ y. y.0) (answers_always _ _ _ (λ f a r g called. search rules)))
