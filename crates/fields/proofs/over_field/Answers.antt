-- Whether a field is over is whether one of the offsets' fields is.
use Rattle.std.proofs.Common.{arith, ◌+◌, ◌≤◌, ◌∙◌, ap, rules, tests, length}
use Rattle.std.specs.Option.{is_none}
use Rattle.std.proofs.lemmas.Iterator.{YieldsList-from_slice}
use Rattle.std.proofs.lemmas.Iterator.Adapters.{serves_from_places}
use Rattle.std.proofs.lemmas.Iterator.Search.{any_from_yields_List}
use Rattle.values.specs.Values.{moved_by}
use Rattle.book.specs.Records.{record_of}
use Rattle.fields.specs.Fields.{field_in}
use Rattle.fields.proofs.Laws.{offset_inside, over_any}
use Rattle.fields.proofs.over_field.Goals as goal

pub any-requires-clause-callable : goal.any-requires-clause-callable
any-requires-clause-callable c =
    let os = (record_of c.args.r).fields in
    serves_from_places (YieldsList-from_slice os cc) (λ x q k. search (rules, tests)) (λ x k h e.
    let inside = offset_inside c.args.r k x.now h in
    let size = ap length c.text-text.ensures.value in
    let fits : x.now + 2 ≤ length c.text-text.result.now = omega arith in
    search rules)

pub returns : goal.returns
returns c =
    let r = record_of c.args.r in
    any_from_yields_List (λ o. is_none (moved_by c.args.d (field_in r.text o))) _ _ _ c.any.ensures.ran (YieldsList-from_slice r.fields cc) (λ x b q k. search (rules, tests))
    ∙ over_any c.args.d r.text r.fields
