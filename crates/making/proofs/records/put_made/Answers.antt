-- `records::put_made` meets its contract: a text without a byte has no record, and nothing is laid where the pass does not write.
use Rattle.std.proofs.Common.{◌-◌, refl, sym, ap, ◌∙◌, arith}
use Rattle.std.proofs.lemmas.List.Edits.{sets}
use Rattle.values.specs.Words.{part}
use Rattle.making.specs.Steps.{text_pieces}
use Rattle.making.proofs.Writing.{length-is, text-short, text_half, record_none, record_some}
use Rattle.making.proofs.records.put_made.Goals as goal
use Rattle.making.proofs.records.put_made.Goals.{then-writes+then-size-ne0, else-writes, else-writes-via-then-writes+else-size-ne0, else-writes-via-else-writes}

pub record_length-requires : goal.record_length-requires
record_length-requires c =
    let a = c.args in let o = part a.s.now a.x.from (a.x.end - a.x.from) in let f = c.requires.made_fits.0.text in
    let s = text-short a.x.text o f in let h = text_half a.x.text o f in
    (omega arith, omega arith)

pub returns-clause-m_after : goal.returns-clause-m_after
returns-clause-m_after c =
    let a = c.args in let o = part a.s.now a.x.from (a.x.end - a.x.from) in let size = c.text_length-size.ensures in let is = length-is a.x.text o c.requires.made_fits.0.text in
    elim c.if-writes.branch [
      | then-writes+then-size-ne0 w ↦
          let some = record_some a.card a.address (text_pieces a.x.text o) (λ z. w.if-size-ne0.true (size ∙ sym is ∙ z)) in
          w.m-is ∙ rw w.if-writes.true (w.put_record.ensures ∙ ap (sets a.m.now a.to) (sym some))
      | else-writes w ↦
          elim w.else-writes.branch [
            | else-writes-via-then-writes+else-size-ne0 v ↦
                let none = record_none a.card a.address (text_pieces a.x.text o) (is ∙ sym size ∙ v.if-size-ne0.false) in
                w.m-is ∙ rw v.if-writes.true (ap (sets a.m.now a.to) (sym none))
            | else-writes-via-else-writes v ↦ w.m-is ∙ rw v.if-writes.false refl
          ]
    ]
