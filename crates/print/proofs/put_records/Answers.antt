-- A turn writes the line of the record at hand; the lines behind it go behind it.
use Rattle.std.proofs.Common.{arith, ap, length, ◌≡◌, ◌+◌, ◌∙◌, sym, refl, length-append}
use Rattle.std.proofs.lemmas.List.Edits.{sets}
use Rattle.values.proofs.Laws.{sets_append}
use Rattle.book.specs.Records.{record_of, records_left}
use Rattle.print.specs.Print.{record_line, record_lines}
use Rattle.print.proofs.Laws.{lines_first, lines_none, line-length}
use Rattle.print.proofs.put_records.Goals as goal

pub put_record-at-requires : goal.put_record-at-requires
put_record-at-requires c =
    let r = record_of c.in-Some.r in
    let rest = records_left c.next.new.self in
    let room = c.loop-r.invariant.room in
    let left = ap (λ rs. length (record_lines rs)) c.in-Some.ensures.steps in
    let more = ap length (lines_first r rest) ∙ length-append (record_line r) (record_lines rest) in
    let here = line-length r _ _ refl refl in
    omega arith

pub loop-r-preserved : goal.loop-r-preserved
loop-r-preserved c =
    let l = c.loop-r in
    let w = c.put_record-at in
    let r = record_of c.in-Some.r in
    let rest = records_left c.next.new.self in
    let room = l.invariant.room in
    let left = ap record_lines c.in-Some.ensures.steps ∙ lines_first r rest in
    let more = ap length left ∙ length-append (record_line r) (record_lines rest) in
    let here = line-length r _ _ refl refl in
    let to = w.ensures.value in
    let there : w.result ≡ l.at + length (record_line r) = omega arith in
    let same = w.auto.m in
    record {
      lines = l.invariant.lines ∙ ap (λ vs. sets l.m l.at vs) left ∙ sets_append l.m l.at (record_line r) (record_lines rest)
          ∙ ap (λ n. sets (sets l.m l.at (record_line r)) n (record_lines rest)) (sym there)
          ∙ ap (λ x. sets x w.result (record_lines rest)) (sym w.ensures.m_after);
      room = omega arith;
    }

pub returns : goal.returns
returns c =
    let l = c.loop-r in
    sym (l.invariant.lines ∙ ap (λ vs. sets l.m l.at vs) (ap record_lines c.in-None.ensures.steps.0 ∙ lines_none))
