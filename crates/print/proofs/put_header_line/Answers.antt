-- Four columns written one after the other.
use Rattle.std.proofs.Common.{ap, ◌∙◌, sym}
use Rattle.std.proofs.lemmas.List.Edits.{sets}
use Rattle.print.proofs.Laws.{header_is, then-column}
use Rattle.print.proofs.put_header_line.Goals as goal

pub returns-clause-m_after : goal.returns-clause-m_after
returns-clause-m_after c =
    let a = c.args in
    let s = a.book.now in
    let p = c.put_column-version.ensures in
    let q = c.put_column-flag.ensures in
    let r = c.put_column-entry.ensures in
    let t = c.put_column.ensures in
    then-column _ _ _ _ _ _ _ _ p.m_after p.value (then-column _ _ _ _ _ _ _ _ q.m_after q.value (then-column _ _ _ _ _ _ _ _ r.m_after r.value t.m_after))
    ∙ ap (λ l. sets a.m.now 0 l) (sym (header_is s))
