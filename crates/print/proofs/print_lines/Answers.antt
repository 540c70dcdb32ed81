-- Room or none; the header and the records one after the other.
use Rattle.std.proofs.Common.{List, ℕ, arith, ap, length, ◌≡◌, ◌+◌, ◌∙◌, sym, length-append}
use Rattle.std.proofs.lemmas.List.Edits.{sets}
use Rattle.values.proofs.Laws.{then}
use Rattle.book.specs.Reading.{records_in, Kept}
use Rattle.book.proofs.Turns.{long_enough}
use Rattle.print.specs.Print.{header_line, record_lines, book_lines}
use Rattle.print.proofs.Laws.{room, no_room, lines_are, header_length}
use Rattle.print.proofs.print_lines.Goals as goal

-- how long the lines are together
whole : (s : List ℕ) (n : ℕ) → Kept s → n ≡ length (record_lines (records_in s)) → 20 + n ≡ length (book_lines s)
whole s n (e, q) is =
    let l = header_length s (long_enough s e q) in
    let k = length-append (header_line s) (record_lines (records_in s)) in
    let f = ap length (lines_are s) in
    omega arith

pub put_header_line-to-requires : goal.put_header_line-to-requires
put_header_line-to-requires c =
    let (e, q) = c.requires in
    (omega arith, long_enough _ e q)

pub returns-then-all-out : goal.returns-then-all-out
returns-then-all-out c =
    let a = c.args in
    let s = a.book.now in
    let n = whole s _ c.requires c.lines_length-all.ensures.0 in
    let (e, q) = c.requires in
    let l = header_length s (long_enough s e q) in
    let h = c.put_header_line-to in
    let to = h.ensures.value in
    record {
      value = n;
      out_after = then a.out.now _ _ 0 h.result (header_line s) (record_lines (records_in s)) h.ensures.m_after (omega arith) c.put_records.ensures
          ∙ ap (λ vs. sets a.out.now 0 vs) (sym (lines_are s)) ∙ sym (room _ a.out.now (omega arith));
    }

pub returns-else-all-out : goal.returns-else-all-out
returns-else-all-out c =
    let n = whole c.args.book.now _ c.requires c.lines_length-all.ensures.0 in
    record { value = n; out_after = sym (no_room _ c.args.out.now (omega arith)) }
