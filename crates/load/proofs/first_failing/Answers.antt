-- The record that is found is the first that fails.
use Rattle.std.proofs.Common.{rules, tests}
use Rattle.std.proofs.lemmas.Iterator.Consumers.{YieldsList-from_first}
use Rattle.std.proofs.lemmas.Iterator.Search.{find_from_yields_List}
use Rattle.book.specs.Reading.{records_in}
use Rattle.book.specs.Records.{record_of, records_left}
use Rattle.load.proofs.Laws.{card_found}
use Rattle.load.proofs.first_failing.Goals as goal

pub returns-clause-card : goal.returns-clause-card
returns-clause-card g c test acts =
    let found = find_from_yields_List test c.find.new.self _ c.find.result c.find.ensures.ran (YieldsList-from_first record_of records_left (records_in c.args.book.now) c.of.ensures) (λ x b q k. search (rules, tests, acts)) in
    card_found test (records_in c.args.book.now) c.find.result c.map.result _ found c.map.ensures.cases (λ r n h. search (rules, tests))
