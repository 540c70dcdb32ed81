-- `runs::digits_end` meets its contract: the digits are those bytes from the position on that are one of the base.
use native.Mathlib.Omega.{arith}
use borrow.Author.Tests.{tests, le-ltb}
use lib.Dec.{ltb}
use Rattle.std.proofs.Common.{ℕ, Bool, false, ◌≡◌, ◌+◌, ◌-◌, ◌≤◌, length, take, drop, min, rules, sym, ap, ◌∙◌}
use Rattle.std.proofs.Math.ListN.{length-drop}
use Rattle.std.specs.List.{prefix_len}
use Rattle.std.proofs.lemmas.Iterator.{YieldsList-from_slice}
use Rattle.std.proofs.lemmas.Iterator.Consumers.{YieldsList-at, count_from_yields_List}
use Rattle.std.proofs.lemmas.Iterator.Search.{YieldsList-from_take_while}
use Rattle.std.proofs.lemmas.List.{take_all, drop_min}
use Rattle.std.proofs.lemmas.List.Folds.{length-prefix_len}
use Rattle.letters.specs.Text.{is_from_to}
use Rattle.letters.specs.Letters.{digit_of}
use Rattle.letters.proofs.Runs.{run_prefix}
use Rattle.data.specs.Runs.{digits_end}
use Rattle.data.proofs.runs.digits_end.Goals as goal

-- past the end stands no digit
past_end : (base : ℕ) → base ≤ 16 → ltb (digit_of 0) base ≡ false
unfolding digit_of is_from_to
past_end base h = le-ltb 16 base h

pub returns : goal.returns
unfolding digits_end
returns c =
    let goes : ℕ → Bool = λ d. ltb (digit_of d) c.args.base in
    let from = min c.args.at (length c.args.s.now) in
    let left = take (length c.args.s.now - from) (drop from c.args.s.now) in
    let n : c.count.result ≡ prefix_len goes left =
    count_from_yields_List c.take_while.result _ c.count.ensures.ran
    (YieldsList-from_take_while _ goes
    (YieldsList-at c.take_while.ensures.source (YieldsList-from_slice left (search rules)))
    c.take_while.ensures.closure c.take_while.ensures.done (λ x b q k. search (rules, tests)))
    ∙ length-prefix_len goes left in
    let whole : left ≡ drop c.args.at c.args.s.now =
    take_all (length c.args.s.now - from) (drop from c.args.s.now) (rw length-drop (omega arith)) ∙ drop_min c.args.at c.args.s.now in
    let all : take (length c.args.s.now) (drop c.args.at c.args.s.now) ≡ left =
    take_all (length c.args.s.now) (drop c.args.at c.args.s.now) (rw length-drop (omega arith)) ∙ sym whole in
    sym (run_prefix goes (length c.args.s.now) c.args.s.now c.args.at (λ h. past_end c.args.base c.requires) ∙ ap (λ l. c.args.at + prefix_len goes l) all ∙ ap (λ k. c.args.at + k) (sym n))
