-- `run_two` meets its contract: each turn takes `Walked` one card on, and the header comes last.
use Rattle.std.proofs.Common.{rules, Err, Ok, ◌≡◌, ◌+◌, ◌<◌, sym, ap, ◌∙◌, length, arith}
use Rattle.std.proofs.lemmas.Result.{err_from_is_err_and}
use Rattle.values.proofs.Numbers.{number_above}
use Rattle.names.specs.Names.{find}
use Rattle.passes.specs.Two.{two_no}
use Rattle.making.specs.Steps.{card_made}
use Rattle.pass_two.specs.Code.{checked_in, bytes_in, judged_as}
use Rattle.pass_two.proofs.Walk.{walk_card, walk_end, walk_sound, walk_fits, walk_room, walk_nothing, stop_off, walk_bad, walk_on, walk_clean, walk_size, walk_long, walk_header}
use Rattle.pass_two.proofs.run_two.Goals as goal

pub make_card-requires : goal.make_card-requires
make_card-requires c =
    let l = c.loop-i in let low = l.invariant.low in let few = c.len-i-end.ensures in
    let w = walk_card c.card-card.ensures (omega (arith, c.loop-i-test.true)) l.invariant in
    (walk_sound w, omega (arith, c.loop-i-test.true))

pub returns-in_err-made-clause-value : goal.returns-in_err-made-clause-value
unfolding checked_in
returns-in_err-made-clause-value c =
    let a = c.args in let l = c.loop-i in let look = find a.names.now in let s = c.card-card.result.now in
    let w = walk_card c.card-card.ensures (omega (arith, c.loop-i-test.true)) l.invariant in
    let number : c.in_err-made.field-0.0.number ≡ two_no look l.c s = search rules in
    let at : c.in_err-made.field-0.0.card ≡ l.i + 1 = search rules in
    let above : 0 < two_no look l.c s = search (rules, number_above) in
    let same : c.in_err-made.field-0.0 ≡ record { number = two_no look l.c s; card = l.i + 1 } = rw (← number, ← at) in
    let told = err_from_is_err_and c.from_residual.result c.from_residual.ensures.1 in
    let is = told.1 ∙ ap Err told.2 in
    let stop = walk_bad w (λ z. omega arith) in
    (is ∙ ap Err same ∙ sym (ap (λ x. judged_as x (length (bytes_in a.source.now a.names.now))) stop), rw is (omega arith))

pub returns-in_err-made-clause-out_after : goal.returns-in_err-made-clause-out_after
unfolding checked_in bytes_in
returns-in_err-made-clause-out_after c =
    let a = c.args in let l = c.loop-i in
    let w = walk_card c.card-card.ensures (omega (arith, c.loop-i-test.true)) l.invariant in
    let above : 0 < two_no (find a.names.now) l.c c.card-card.result.now = search (rules, number_above) in
    let stop = walk_bad w (λ z. omega arith) in
    walk_nothing w (stop_off _ _ stop c.requires.writes_fits)

pub put_made-to-requires-clause-made_fits : goal.put_made-to-requires-clause-made_fits
put_made-to-requires-clause-made_fits c =
    let l = c.loop-i in let near = l.invariant.short in let few = c.len-i-end.ensures in
    let w = walk_card c.card-card.ensures (omega (arith, c.loop-i-test.true)) l.invariant in
    let made : c.in_ok-made.made ≡ card_made (find c.args.names.now) l.c c.card-card.result.now = search rules in
    (walk_fits w made, omega (arith, c.loop-i-test.true))

pub put_made-to-requires-clause-room : goal.put_made-to-requires-clause-room
unfolding bytes_in
put_made-to-requires-clause-room c =
    let l = c.loop-i in
    let w = walk_card c.card-card.ensures (omega (arith, c.loop-i-test.true)) l.invariant in
    let made : c.in_ok-made.made ≡ card_made (find c.args.names.now) l.c c.card-card.result.now = search rules in
    λ on. walk_room w made (c.requires.writes_fits on).1

pub loop-i-preserved : goal.loop-i-preserved
loop-i-preserved c =
    let l = c.loop-i in let put = c.put_made-to in
    let w = walk_card c.card-card.ensures (omega (arith, c.loop-i-test.true)) l.invariant in
    let made : c.in_ok-made.made ≡ card_made (find c.args.names.now) l.c c.card-card.result.now = search rules in
    let zero : two_no (find c.args.names.now) l.c c.card-card.result.now ≡ 0 = search rules in
    walk_on w made zero put.ensures.m_after put.auto.m put.ensures.value c.or-entry.ensures

pub put_header-requires : goal.put_header-requires
unfolding bytes_in
put_header-requires c =
    let l = c.loop-i in let near = l.invariant.short in let few = c.len-i-end.ensures in let end = l.auto.i-end in
    let w = walk_end (omega (arith, c.loop-i-test.false)) l.invariant in
    let room = walk_long w (c.requires.writes_fits c.if-writes.true).1 in
    (room.0, omega arith, room.1)

pub returns-then-writes-clause-value : goal.returns-then-writes-clause-value
unfolding checked_in bytes_in
returns-then-writes-clause-value c =
    let a = c.args in let l = c.loop-i in let near = l.invariant.short in let few = c.len-i-end.ensures in let end = l.auto.i-end in
    let w = walk_end (omega (arith, c.loop-i-test.false)) l.invariant in
    (sym (ap (λ x. judged_as x (length (bytes_in a.source.now a.names.now))) (walk_clean w) ∙ ap Ok (walk_size w)), omega arith)

pub returns-then-writes-clause-out_after : goal.returns-then-writes-clause-out_after
unfolding bytes_in
returns-then-writes-clause-out_after c =
    let l = c.loop-i in let put = c.put_header.ensures in
    let w = walk_end (omega (arith, c.loop-i-test.false)) l.invariant in
    walk_header w c.if-writes.true (rw c.flatten.ensures at put)

pub returns-else-writes-clause-value : goal.returns-else-writes-clause-value
unfolding checked_in bytes_in
returns-else-writes-clause-value c =
    let a = c.args in let l = c.loop-i in let near = l.invariant.short in let few = c.len-i-end.ensures in let end = l.auto.i-end in
    let w = walk_end (omega (arith, c.loop-i-test.false)) l.invariant in
    (sym (ap (λ x. judged_as x (length (bytes_in a.source.now a.names.now))) (walk_clean w) ∙ ap Ok (walk_size w)), omega arith)
