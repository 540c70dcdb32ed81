-- The head, the offsets and the text, written one after the other.
use Rattle.std.proofs.Common.{refl, ap, length, ◌+◌, ◌++◌, ◌∙◌, sym}
use Rattle.std.proofs.lemmas.List.Edits.{sets}
use Rattle.values.proofs.Laws.{then}
use Rattle.book.specs.Records.{record_of}
use Rattle.print.specs.Print.{head_columns, offsets, column}
use Rattle.print.proofs.Laws.{head-length, offsets-length, line-is}
use Rattle.print.proofs.put_record.Goals as goal

pub returns-clause-m_after : goal.returns-clause-m_after
returns-clause-m_after c =
    let a = c.args in
    let r = record_of a.r in
    let h = c.put_head_columns-offsets in
    let o = c.put_offsets-text in
    let t = c.put_column.ensures.m_after ∙ ap (λ bytes. sets o.new.m o.result (column bytes 10)) c.text.ensures.value in
    then _ _ _ _ _ (head_columns (length r.fields) (length r.text) r.card r.address) (offsets r.fields ++ column r.text 10) h.ensures.m_after
    (h.ensures.value ∙ ap (λ k. a.to + k) (sym (head-length (length r.fields) (length r.text) r.card r.address)))
    (then _ _ _ _ _ (offsets r.fields) (column r.text 10) o.ensures.m_after (o.ensures.value ∙ ap (λ k. h.result + k) (sym (offsets-length r.fields))) t)
    ∙ ap (λ l. sets a.m.now a.to l) (sym (line-is r _ _ refl refl))
