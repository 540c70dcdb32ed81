-- `run_end` meets its contract: the run is those bytes from the position on that are blank, or that are not.
use native.Mathlib.Omega.{arith}
use borrow.Author.Tests.{tests}
use Rattle.std.proofs.Common.{ℕ, Bool, true, false, refl, not, ◌≡◌, ◌+◌, ◌-◌, length, take, drop, rules, sym, ap, ◌∙◌}
use Rattle.std.specs.Bool.{beq}
use Rattle.std.specs.List.{prefix_len}
use Rattle.std.proofs.lemmas.Iterator.{YieldsList-from_slice}
use Rattle.std.proofs.lemmas.Iterator.Consumers.{YieldsList-at, count_from_yields_List}
use Rattle.std.proofs.lemmas.Iterator.Search.{YieldsList-from_take_while}
use Rattle.std.proofs.lemmas.List.Folds.{length-prefix_len}
use Rattle.values.specs.Tests.{pick}
use Rattle.letters.specs.Text.{run_end}
use Rattle.letters.proofs.Runs.{run_prefix, run_bounds}
use Rattle.cards.specs.Fields.{is_blank_byte}
use Rattle.cards.proofs.run_end.Goals as goal

beq_pick : (x y : Bool) → beq x y ≡ pick y x (not x)
beq_pick true true = refl
beq_pick true false = refl
beq_pick false true = refl
beq_pick false false = refl

pub returns : goal.returns
returns c =
    let goes : ℕ → Bool = λ b. pick c.args.blank (is_blank_byte b) (not (is_blank_byte b)) in
    let left = take (length c.args.s.now - c.args.at) (drop c.args.at c.args.s.now) in
    let n : c.count.result ≡ prefix_len goes left =
    count_from_yields_List c.take_while.result _ c.count.ensures.ran
    (YieldsList-from_take_while _ goes
    (YieldsList-at c.take_while.ensures.source (YieldsList-from_slice left (search rules)))
    c.take_while.ensures.closure c.take_while.ensures.done (λ x b q k. search (rules, tests, beq_pick)))
    ∙ length-prefix_len goes left in
    let end = run_prefix goes (length c.args.s.now - c.args.at) c.args.s.now c.args.at (λ h. absurd (omega arith)) in
    let bounds = run_bounds goes (length c.args.s.now - c.args.at) c.args.s.now c.args.at in
    let whole : run_end goes (length c.args.s.now - c.args.at) c.args.s.now c.args.at ≡ c.args.at + c.count.result = end ∙ ap (λ k. c.args.at + k) (sym n) in
    (sym whole, omega arith, omega (arith, bounds.1, whole))
