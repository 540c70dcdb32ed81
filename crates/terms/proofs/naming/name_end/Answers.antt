-- `naming::name_end` meets its contract: the name's characters are those from the position on that go on a name, six at most.
use native.Mathlib.Omega.{arith}
use borrow.Author.Tests.{tests}
use Rattle.std.proofs.Common.{ℕ, Bool, ◌≡◌, ◌+◌, take, drop, rules, sym, ap, ◌∙◌}
use Rattle.std.proofs.Math.ListN.{length-take, length-drop}
use Rattle.std.specs.List.{prefix_len}
use Rattle.std.proofs.lemmas.Iterator.{YieldsList-from_slice, YieldsList-from_take}
use Rattle.std.proofs.lemmas.Iterator.Consumers.{YieldsList-at, count_from_yields_List}
use Rattle.std.proofs.lemmas.Iterator.Search.{YieldsList-from_take_while}
use Rattle.std.proofs.lemmas.List.Folds.{length-prefix_len}
use Rattle.std.proofs.lemmas.List.Sums.{prefix_len-le-length}
use Rattle.std.proofs.lemmas.Slice.{between_to_end}
use Rattle.letters.specs.Letters.{class_of, goes_on_name}
use Rattle.letters.proofs.Laws.{class_zero}
use Rattle.letters.proofs.Runs.{run_prefix}
use Rattle.terms.proofs.naming.name_end.Goals as goal

-- a byte that goes on a name
abbrev goes_on : ℕ → Bool
goes_on b = goes_on_name (class_of b)

pub returns : goal.returns
returns c =
    let left = drop c.args.at c.args.s.now in
    let n : c.count.result ≡ prefix_len goes_on (take 6 left) =
    count_from_yields_List c.take_while.result _ c.count.ensures.ran
    (YieldsList-from_take_while _ goes_on
    (YieldsList-at c.take_while.ensures.source (YieldsList-from_take 6 (YieldsList-at c.take.ensures.source (YieldsList-from_slice left (search (rules, between_to_end)))) c.take.ensures.count))
    c.take_while.ensures.closure c.take_while.ensures.done (λ x b q k. search (rules, tests)))
    ∙ length-prefix_len goes_on (take 6 left) in
    let end = run_prefix goes_on 6 c.args.s.now c.args.at (λ h. ap goes_on_name class_zero) in
    (sym (end ∙ ap (λ k. c.args.at + k) (sym n)), omega arith, omega (arith, simp (length-take, length-drop) at (prefix_len-le-length goes_on (take 6 (drop c.args.at c.args.s.now)))))
