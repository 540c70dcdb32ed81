-- `all_accepted` meets its contract: what is left is accepted where its first part and what lies behind that are.
use Rattle.std.proofs.Common.{List, ℕ, Bool, rules, true, false, sym, ap, ◌∙◌, ◌≡◌, ◌++◌}
use Rattle.std.proofs.lemmas.List.{nil_from_length}
use Rattle.values.specs.Tests.{both}
use Rattle.cards.specs.Fields.{all_accepted}
use Rattle.cards.proofs.Laws.{accepted_append}
use Rattle.cards.proofs.all_accepted.Goals as goal

behind_part : (s rest part left : List ℕ) (told : Bool) → all_accepted s ≡ all_accepted rest → rest ≡ part ++ left → told ≡ all_accepted part
    → all_accepted s ≡ both told (all_accepted left)
behind_part s rest part left told e parts t = e ∙ ap all_accepted parts ∙ accepted_append part left ∙ ap (λ x. both x (all_accepted left)) (sym t)

pub loop-part-init : goal.loop-part-init
loop-part-init c = search rules

pub returns-then-not-part_accepted : goal.returns-then-not-part_accepted
returns-then-not-part_accepted c = sym (behind_part _ _ _ _ false c.loop-part.invariant c.in-Some.ensures.steps.1.0 c.if-not-part_accepted.ensures)

pub loop-part-preserved : goal.loop-part-preserved
loop-part-preserved c = behind_part _ _ _ _ true c.loop-part.invariant c.in-Some.ensures.steps.1.0 c.if-not-part_accepted.ensures

pub returns : goal.returns
unfolding all_accepted
returns c =
    let none = nil_from_length _ c.in-None.ensures.steps.1.0 in
    sym (c.loop-part.invariant ∙ ap all_accepted none)
