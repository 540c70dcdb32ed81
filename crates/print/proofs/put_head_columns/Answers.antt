-- Four columns written one after the other.
use Rattle.std.proofs.Common.{◌≡◌, ◌+◌, ◌++◌, ◌∷◌, [], ap, length}
use Rattle.std.proofs.lemmas.List.Edits.{sets}
use Rattle.values.specs.Words.{two_bytes}
use Rattle.book.specs.Book.{rest_head}
use Rattle.book.specs.Records.{record_of}
use Rattle.print.specs.Print.{column}
use Rattle.print.proofs.Laws.{head-is, then-column}
use Rattle.print.proofs.put_head_columns.Goals as goal

pub returns-clause-m_after : goal.returns-clause-m_after
returns-clause-m_after c =
    let a = c.args in
    let r = record_of a.r in
    let p = c.put_column-card.ensures in
    let q = c.put_column-address.ensures in
    let s = c.put_column-last.ensures in
    let t = c.put_column.ensures in
    let count = ap length c.offsets-count.ensures.value in
    let size = ap length c.text.ensures.value in
    let rest : c.to_be_bytes.result ≡ two_bytes (rest_head + length c.offsets-count.result.now + length c.text.result.now) = c.to_be_bytes.ensures in
    let card : c.to_be_bytes-2.result ≡ two_bytes c.card.result = c.to_be_bytes-2.ensures in
    let address : c.to_be_bytes-3.result ≡ two_bytes c.address.result.0 = c.to_be_bytes-3.ensures in
    let written : c.put_column.new.m ≡ sets a.m.now a.to (column c.to_be_bytes.result 32 ++ (column c.to_be_bytes-2.result 32 ++ (column c.to_be_bytes-3.result 32 ++ column (length c.offsets-count.result.now ∷ []) 32))) =
    then-column _ _ _ _ _ _ _ _ p.m_after p.value (then-column _ _ _ _ _ _ _ _ q.m_after q.value (then-column _ _ _ _ _ _ _ _ s.m_after s.value t.m_after)) in
    cc (head-is (length r.fields) (length r.text) r.card r.address)
