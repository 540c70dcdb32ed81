-- The record at hand is the first of those left: its text goes inside, and is counted.
use Rattle.std.proofs.Common.{arith, ap, length, subst, sym, ◌≡◌, ◌∙◌}
use Rattle.std.proofs.lemmas.List.Edits.{sets}
use Rattle.values.specs.Values.{moved_by}
use Rattle.book.specs.Records.{record_of}
use Rattle.fields.specs.Fields.{moved_text}
use Rattle.load.specs.Load.{stored, stored_all, bytes_stored}
use Rattle.load.proofs.Laws.{Storing, still_inside, still_count, still-first, stored_to, stored_nowhere, stored-none, bytes-none, bytes_fit}
use Rattle.load.proofs.store_all.Goals.{in-Some-plus, in_default}
use Rattle.load.proofs.store_all.Goals as goal

pub put_moved-requires : goal.put_moved-requires
put_moved-requires c =
    let a = c.args in
    let l = c.loop-r in
    let r = record_of c.in-Some.r in
    let left = subst (Storing a.book.now a.d a.m.now l.m l.count) c.in-Some.ensures.steps l.invariant in
    let to = c.in-Some-plus.ensures ∙ ap (λ n. moved_by a.d (record { 0 = n })) c.address.ensures in
    let inside = still_inside _ _ _ _ _ _ r _ c.in-Some-plus.address left c.in-Some.r.sound.card.0 to in
    omega (arith, l.auto.m, c.from.ensures)

pub overflow_add-count : goal.overflow_add-count
overflow_add-count c =
    let a = c.args in
    let l = c.loop-r in
    let left = subst (Storing a.book.now a.d a.m.now l.m l.count) c.in-Some.ensures.steps l.invariant in
    let counted = still_count _ _ _ _ _ _ (record_of c.in-Some.r) _ left in
    let size = ap length c.text.ensures.value in
    let fit = bytes_fit _ c.requires.kept in
    omega arith

pub loop-r-preserved : goal.loop-r-preserved
loop-r-preserved c =
    let a = c.args in
    let l = c.loop-r in
    let r = record_of c.in-Some.r in
    let left = subst (Storing a.book.now a.d a.m.now l.m l.count) c.in-Some.ensures.steps l.invariant in
    let address = ap (λ n. moved_by a.d (record { 0 = n })) c.address.ensures in
    let size = ap length (sym c.text.ensures.value) in
    let is : c.match-plus.m ≡ stored a.d r l.m = elim c.match-plus.branch [
      | in-Some-plus w ↦ w.m-is ∙ w.put_moved.ensures ∙ ap (λ n. sets l.m n (moved_text a.d r)) w.from.ensures ∙ sym (stored_to a.d r l.m w.in-Some-plus.address (w.in-Some-plus.ensures ∙ address))
      | in_default w ↦ w.m-is ∙ sym (stored_nowhere a.d r l.m (w.in_default.ensures ∙ address))
    ] in
    still-first _ _ _ _ _ _ _ _ r _ left c.in-Some.r.sound.card.0 size is

pub returns-clause-value : goal.returns-clause-value
returns-clause-value c =
    let fit = bytes_fit _ c.requires.kept in
    let none = ap bytes_stored c.in-None.ensures.steps.0 ∙ bytes-none in
    let bytes = c.loop-r.invariant.bytes in
    (omega arith, omega arith)

pub returns-clause-m_after : goal.returns-clause-m_after
returns-clause-m_after c =
    sym (c.loop-r.invariant.storage ∙ ap (λ rs. stored_all c.args.d rs c.loop-r.m) c.in-None.ensures.steps.0 ∙ stored-none c.args.d c.loop-r.m)
