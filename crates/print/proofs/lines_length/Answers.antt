-- The sum of the lengths of the records' lines.
use Rattle.std.proofs.Common.{ℕ, arith, rules, tests, length, ◌≡◌, ◌∙◌, sym}
use Rattle.std.proofs.lemmas.Iterator.{YieldsList-from_map}
use Rattle.std.proofs.lemmas.Iterator.Consumers.{YieldsList-from_first, YieldsList-at, sum_by_from_yields_List, fits_by_from_yields_list}
use Rattle.book.specs.Book.{Record}
use Rattle.book.specs.Reading.{records_in}
use Rattle.book.specs.Records.{record_of, records_left}
use Rattle.print.specs.Print.{line_length}
use Rattle.print.proofs.Laws.{lines_sum, lines_fit}
use Rattle.print.proofs.lines_length.Goals as goal

abbrev size : Record → ℕ
size r = line_length (length r.fields) (length r.text)

pub sum-requires-clause-fits : goal.sum-requires-clause-fits
sum-requires-clause-fits c =
    let rs = records_in c.args.book.now in
    let fit = lines_fit _ c.requires in
    let sum = lines_sum rs in
    fits_by_from_yields_list size rs c.map.result _
    (YieldsList-from_map _ size (YieldsList-at c.map.ensures.source (YieldsList-from_first record_of records_left rs c.of.ensures)) c.map.ensures.closure (λ x r q k. search (rules, tests)))
    (omega arith)

pub returns : goal.returns
returns c =
    let rs = records_in c.args.book.now in
    let fit = lines_fit _ c.requires in
    let sum = sum_by_from_yields_List size rs c.map.result c.sum.result c.sum.ensures.ran
    (YieldsList-from_map _ size (YieldsList-at c.map.ensures.source (YieldsList-from_first record_of records_left rs c.of.ensures)) c.map.ensures.closure (λ x r q k. search (rules, tests))) in
    let all : c.sum.result ≡ _ = sum ∙ sym (lines_sum rs) in
    (all, omega arith)
