-- The text is laid down, then its fields are moved in place, one at each turn.
use Rattle.std.proofs.Common.{List, ℕ, arith, ap, ◌∙◌, subst}
use Rattle.std.proofs.lemmas.List.Edits.{sets}
use Rattle.values.specs.Values.{moved_by}
use Rattle.book.specs.Records.{record_of}
use Rattle.fields.specs.Fields.{field_in}
use Rattle.fields.proofs.Laws.{offset_turn, offsets_done, Moving, moving_start, moving_turn, moving_kept, moving_end}
use Rattle.fields.proofs.put_moved.Goals.{in-Some, in_default}
use Rattle.fields.proofs.put_moved.Goals as goal

pub loop-byte-init : goal.loop-byte-init
loop-byte-init c =
    let a = c.args in
    let laid = c.put_bytes.ensures ∙ ap (λ t. sets a.m.now a.to t) c.text-text.ensures.value in
    moving_start a.m.now a.to a.d (record_of a.r) c.requires _ laid

pub moved_field-requires : goal.moved_field-requires
moved_field-requires c =
    let (left, inside) = offset_turn c.args.r _ _ _ c.offsets-byte-items.ensures.value c.loop-byte-test.true c.from-offset.ensures in
    rw c.text-text.ensures.value inside

pub put_word-requires : goal.put_word-requires
put_word-requires c =
    let (left, inside) = offset_turn c.args.r _ _ _ c.offsets-byte-items.ensures.value c.loop-byte-test.true c.from-offset.ensures in
    omega (arith, inside, c.requires, c.loop-byte.auto.m)

pub loop-byte-preserved : goal.loop-byte-preserved
loop-byte-preserved c =
    let a = c.args in
    let l = c.loop-byte in
    let r = record_of a.r in
    let m₀ = c.put_bytes.new.m in
    let (left, inside) = offset_turn a.r _ _ _ c.offsets-byte-items.ensures.value c.loop-byte-test.true c.from-offset.ensures in
    let moving = subst (λ (os : List ℕ). Moving m₀ a.to a.d r os l.m) left l.invariant in
    let in_text = ap (λ t. moved_by a.d (field_in t c.from-offset.result)) c.text-text.ensures.value in
    elim c.match-moved_field.branch [
      | in-Some w ↦ rw w.m-is (moving_turn m₀ a.to a.d r (omega (arith, c.requires)) _ _ l.m _ _ moving inside (w.in-Some.ensures ∙ in_text) w.put_word.ensures)
      | in_default w ↦ rw w.m-is (moving_kept m₀ a.to a.d r (omega (arith, c.requires)) _ _ l.m moving (w.in_default.ensures ∙ in_text))
    ]

pub returns : goal.returns
returns c =
    let a = c.args in
    let l = c.loop-byte in
    let r = record_of a.r in
    let none = offsets_done a.r _ l.byte-index c.offsets-byte-items.ensures.value (omega arith) in
    let laid = c.put_bytes.ensures ∙ ap (λ t. sets a.m.now a.to t) c.text-text.ensures.value in
    moving_end a.m.now a.to a.d r c.requires _ l.m laid
    (subst (λ (os : List ℕ). Moving c.put_bytes.new.m a.to a.d r os l.m) none l.invariant)
