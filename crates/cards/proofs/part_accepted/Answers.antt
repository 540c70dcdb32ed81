-- `part_accepted` meets its contract: each turn adds a byte's own test to what those before it told.
use borrow.Author.Tests.{tests}
use Rattle.std.proofs.Common.{ℕ, Bool, rules, true, ◌∙◌}
use Rattle.std.specs.Prelude.{◌&&◌}
use Rattle.std.proofs.lemmas.Iterator.{YieldsList-from_slice}
use Rattle.std.proofs.lemmas.Iterator.Consumers.{fold_from_yields_List}
use Rattle.letters.specs.Letters.{class_of, is_accepted}
use Rattle.values.proofs.Laws.{all_fold}
use Rattle.cards.proofs.Laws.{accepted_all}
use Rattle.cards.proofs.part_accepted.Goals as goal

pub returns : goal.returns
returns c =
    let test : ℕ → Bool = λ b. is_accepted (class_of b) in
    fold_from_yields_List _ (λ told b. told && test b) _ _ c.fold.ensures.ran (YieldsList-from_slice c.args.part.now (search rules)) (λ a x b q k. search (rules, tests))
    ∙ all_fold test c.args.part.now true
    ∙ accepted_all c.args.part.now
