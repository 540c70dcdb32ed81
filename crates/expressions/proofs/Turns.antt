-- A turn of the loops that work an expression out: what is held so far, and what is still to be read.
use Rattle.std.specs.Prelude.{Option, Some, None, Result, Ok, Err}
use Prim.Native.Nat.{ℕ, ◌+◌, ◌*◌, ◌≤◌, ◌<◌}
use mathlib.Core.List.{List, [], map}
use mathlib.Core.Bool.{Bool, true, false}
use mathlib.Core.Path.{◌≡◌, refl, ap, ◌∙◌}
use native.Mathlib.Nat.{mul-le-mul}
use native.Mathlib.Omega.{arith}
use lib.ListN.{length}
use Rattle.letters.specs.Text.{stands}
use Rattle.values.specs.Tests.{pick}
use Rattle.values.proofs.Laws.{clash}
use Rattle.names.specs.declared.Meaning.{Meaning}
use Rattle.terms.specs.Terms.{term_at}
use Rattle.expressions.specs.declared.sums.Held.{Held}
use Rattle.expressions.specs.declared.sums.Running.{Running}
use Rattle.expressions.specs.Form.{Placed, Product, Addend, Read, form_of, end_of, onto, placed_at, factors_at, onto_factors, product_at, joins, onto_products, products_at}
use Rattle.expressions.specs.Form.Read.{up_to, fails}
use Rattle.expressions.specs.Value.{factor_of, factor_at, product_factors, addend_factors, if_plus, if_minus, counted, evaluated}
use Rattle.expressions.specs.Steps.{begun, multiplied, multiplied_all, held, held_on, held_at, nothing, run_on, run_all, ended, run_from}
use Rattle.expressions.proofs.Reading.{factors_more, factors_fail, factors_stop, product-more, product_fail, product-within, products_are}
use Rattle.expressions.proofs.Same.{ended_same}
use Rattle.std.specs.Result.{result_ok}
use Rattle.std.specs.Option.{ok_or}
use Rattle.terms.specs.declared.Term.{Term}
use Rattle.expressions.specs.declared.Fault.TheVariants.{Malformed}

-- a term whose position behind it is known was read
pub read_ok : (x : Term × ℕ) (t : Result (Term × ℕ) ℕ) → result_ok t ≡ Some x → t ≡ Ok x
read_ok x (Ok y) e = cc
read_ok x (Err r) e = clash (cc)

-- the error that is told for nothing
pub told : {X E : Type 0} (o : Option X) (e f : E) → ok_or o e ≡ Err f → f ≡ e
told (Some x) e f h = clash (cc)
told None e f h = cc

module _ (look : ℕ → Option Meaning) (here : ℕ) (s : List ℕ) where
  -- a factor more
  pub held_more : (h : Held) (q r : ℕ) (x : Term) → stands "*" s q ≡ true → term_at s (q + 1) ≡ Ok (x, r)
      → held_on look here h (factors_at s q) ≡ held_on look here (multiplied h (factor_of look here x)) (factors_at s r)
  unfolding held_on multiplied_all
  held_more h q r x t e =
      ap (held_on look here h) (factors_more s q r t (ap end_of e)) ∙ go (factors_at s r) ∙ ap (λ w. held_on look here (multiplied h (factor_at look here w)) (factors_at s r)) e
    where
      go : (k : Read (List Placed)) → held_on look here h (onto (placed_at s (q + 1)) k) ≡ held_on look here (multiplied h (factor_at look here (term_at s (q + 1)))) k
      go (up_to xs m) = refl
      go (fails m) = refl

  pub held_fail : (h : Held) (q : ℕ) → stands "*" s q ≡ true → result_ok (term_at s (q + 1)) ≡ None → held_on look here h (factors_at s q) ≡ None
  unfolding held_on
  held_fail h q t e = go (term_at s (q + 1)) refl e
    where
      go : (x : Result (Term × ℕ) ℕ) → term_at s (q + 1) ≡ x → result_ok x ≡ None → held_on look here h (factors_at s q) ≡ None
      go (Ok x) i e = clash (cc)
      go (Err r) i e = rw (factors_fail s q r t (ap end_of i))

  pub held-stop : (h : Held) (q : ℕ) → stands "*" s q ≡ false → held_on look here h (factors_at s q) ≡ Some (h, q)
  unfolding held_on multiplied_all
  held-stop h q t = rw (factors_stop s q t)

  -- a product's first term
  pub product_begun : (p q : ℕ) (x : Term) → term_at s p ≡ Ok (x, q) → held_at look here (product_at s p) ≡ held_on look here (begun (factor_of look here x)) (factors_at s q)
  unfolding held_at held_on
  product_begun p q x e =
      ap (held_at look here) (product-more s p q (ap end_of e)) ∙ go (factors_at s q) ∙ ap (λ w. held_on look here (begun (factor_at look here w)) (factors_at s q)) e
    where
      go : (k : Read (List Placed)) → held_at look here (onto_factors (placed_at s p) k) ≡ held_on look here (begun (factor_at look here (term_at s p))) k
      go (up_to xs m) = refl
      go (fails m) = refl

  pub product-none : (p q : ℕ) → end_of (term_at s p) ≡ Err q → held_at look here (product_at s p) ≡ None
  unfolding held_at
  product-none p q e = rw (product_fail s p q e)

  -- a product that was worked out ends behind its position and inside the columns
  pub product_inside : (p : ℕ) (h : Held) (q : ℕ) → held_at look here (product_at s p) ≡ Some (h, q) → (p < q) × (q ≤ length s)
  unfolding held_at
  product_inside p h q e = product-within s p q (go (product_at s p) e)
    where
      go : (x : Read (Product Placed)) → held_at look here x ≡ Some (h, q) → form_of x ≡ Ok q
      go (up_to x r) e = let i : ◌≡◌ {A = Held × ℕ} (held (product_factors look here x), r) (h, q) = cc in ap (λ o. Ok o.1) i
      go (fails r) e = clash (cc)

  run_onto : (r : Running) (minus : Bool) (x : Product Placed) (k : Read (List (Addend Placed)))
      → run_from look here r (onto (record { minus = minus; product = x }) k) ≡ run_from look here (run_on r minus (held (product_factors look here x))) k
  unfolding run_from run_all
  run_onto r minus x (up_to xs q) = refl
  run_onto r minus x (fails q) = refl

  module _ (r : Running) (minus : Bool) (p : ℕ) where
    abbrev rest : ℕ → Read (List (Addend Placed))
    rest q = pick (joins s q) (products_at (stands "-" s q) s (q + 1)) (up_to [] q)

    run_on_lem : (h : Held) (q : ℕ) → held_at look here (product_at s p) ≡ Some (h, q)
        → run_from look here r (products_at minus s p) ≡ run_from look here (run_on r minus h) (rest q)
    unfolding held_at
    run_on_lem h q e = ap (run_from look here r) (products_are minus s p) ∙ go (product_at s p) e
      where
        go : (x : Read (Product Placed)) → held_at look here x ≡ Some (h, q) → run_from look here r (onto_products minus x rest) ≡ run_from look here (run_on r minus h) (rest q)
        go (up_to x m) e =
            let o : ◌≡◌ {A = Held × ℕ} (held (product_factors look here x), m) (h, q) = cc in
            let i : m ≡ q = ap (λ o. o.1) o in
            let k : held (product_factors look here x) ≡ h = ap (λ o. o.0) o in
            run_onto r minus x (rest m) ∙ ap (λ w. run_from look here (run_on r minus w) (rest m)) k ∙ ap (λ w. run_from look here (run_on r minus h) (rest w)) i
        go (fails m) e = clash (cc)

    -- a product more, and a sign behind it
    pub run_more : (h : Held) (q : ℕ) → held_at look here (product_at s p) ≡ Some (h, q) → joins s q ≡ true
        → run_from look here r (products_at minus s p) ≡ run_from look here (run_on r minus h) (products_at (stands "-" s q) s (q + 1))
    run_more h q e j = run_on_lem h q e ∙ rw j

    -- the last product
    pub run_last : (h : Held) (q : ℕ) → held_at look here (product_at s p) ≡ Some (h, q) → joins s q ≡ false
        → run_from look here r (products_at minus s p) ≡ ended (run_on r minus h)
    unfolding run_from run_all
    run_last h q e j = run_on_lem h q e ∙ rw j

    pub run_none : held_at look here (product_at s p) ≡ None → run_from look here r (products_at minus s p) ≡ Err Malformed
    unfolding held_at run_from
    run_none e = ap (run_from look here r) (products_are minus s p) ∙ go (product_at s p) e
      where
        go : (x : Read (Product Placed)) → held_at look here x ≡ None → run_from look here r (onto_products minus x rest) ≡ Err Malformed
        go (up_to x m) e = clash (cc)
        go (fails m) e = refl

  -- from nothing, through the whole expression: the value
  pub run_whole : (at : ℕ) → run_from look here nothing (products_at false s at) ≡ evaluated look here (products_at false s at)
  unfolding run_from evaluated
  run_whole at = go (products_at false s at)
    where
      go : (x : Read (List (Addend Placed))) → run_from look here nothing x ≡ evaluated look here x
      go (up_to xs q) = ended_same (map (addend_factors look here) xs)
      go (fails q) = refl

-- the relocatable terms counted so far are no more than the products
pub counts_on : (r : Running) (minus : Bool) (h : Held) (p q : ℕ) → r.plus + r.minus ≤ p → p < q → (run_on r minus h).plus + (run_on r minus h).minus ≤ q
unfolding run_on
counts_on r minus h p q l i = go minus h.relocatable
  where
    go : (m a : Bool) → r.plus + if_plus m (counted a) + (r.minus + if_minus m (counted a)) ≤ q
    go true true = omega arith
    go true false = omega arith
    go false true = omega arith
    go false false = omega arith

-- a product of two numbers of 32 bits
pub product-fits : (a b : ℕ) → a < 4294967296 → b < 4294967296 → a * b < 18446744073709551616
product-fits a b h k =
    let m : a * b ≤ 4294967295 * 4294967295 = mul-le-mul {n₁ = a} {m₁ = b} {n₂ = 4294967295} {m₂ = 4294967295} (omega arith) (omega arith) in
    omega arith
