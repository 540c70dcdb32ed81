-- The form of an expression: the bounds of its recursions are enough, so that its definitions hold without them; and a turn of each.
use Prim.Native.Nat.{ℕ, zero, suc, ◌+◌, ◌≤◌, ◌<◌}
use mathlib.Core.List.{List, []}
use mathlib.Core.Bool.{Bool, true, false}
use mathlib.Core.Path.{◌≡◌, refl, ap, ◌∙◌}
use native.Mathlib.Omega.{arith}
use lib.ListN.{length, get_or}
use lib.Dec.{eqb}
use Rattle.letters.specs.Text.{stands}
use Rattle.values.specs.Tests.{pick, either}
use Rattle.values.proofs.Laws.{clash}
use Rattle.terms.specs.declared.Term.{Term}
use Rattle.terms.specs.declared.Term.TheVariants.{Number, Symbol, Here}
use Rattle.terms.specs.Terms.{term_at}
use Rattle.terms.proofs.Within.{Stops, Within, term-within, stands-inside}
use Rattle.expressions.specs.Form.{Placed, Product, Read, form_of, end_of, behind, onto, placed_at, factors_from, factors_at, onto_factors, product_at, joins, onto_products, products_from, products_at, expression_at}
use Rattle.expressions.specs.Form.Read.{up_to, fails}
use Rattle.std.specs.Prelude.{Result, Ok, Err}

-- WHERE A READER STANDS

-- the position of an end, good or bad
abbrev reached : Result ℕ ℕ → ℕ
reached (Ok q) = q
reached (Err q) = q

-- what is known of something that was read at a position: a good end is behind it and inside the columns; a bad one no nearer, and not past the columns
abbrev pub Reaches : List ℕ → ℕ → Result ℕ ℕ → Type 0
Reaches s at (Ok q) = (at < q) × (q ≤ length s)
Reaches s at (Err q) = Stops s at q

pub term_reaches : (s : List ℕ) (p : ℕ) → Reaches s p (end_of (term_at s p))
term_reaches s p = go (term_at s p) (term-within s p)
  where
    go : (t : Result (Term × ℕ) ℕ) → Within s p t → Reaches s p (end_of t)
    go (Ok (Number v, q)) w = (w.0, w.1)
    go (Ok (Symbol k, q)) w = (w.0, w.1)
    go (Ok (Here, q)) w = (w.0, w.1)
    go (Err q) w = w

pub end-within : (s : List ℕ) (p q : ℕ) → end_of (term_at s p) ≡ Ok q → (p < q) × (q ≤ length s)
end-within s p q e = let w = term_reaches s p in rw e at w

-- reading on, from a place further on
further : (s : List ℕ) (p q : ℕ) → p ≤ q → q ≤ length s → (f : Result ℕ ℕ) → Stops s q (reached f) → p < q → Reaches s p f
further s p q h i (Ok r) w l = (omega arith, w.1 i)
further s p q h i (Err r) w l = (omega arith, λ m. w.1 i)

stops : (s : List ℕ) (p : ℕ) (f : Result ℕ ℕ) → Reaches s p f → Stops s p (reached f)
stops s p (Ok q) w = (omega arith, λ l. w.1)
stops s p (Err q) w = w

form_onto : {X : Type 0} (x : X) (k : Read (List X)) → form_of (onto x k) ≡ form_of k
form_onto x (up_to xs q) = refl
form_onto x (fails q) = refl

-- factors end, or fail, where they begin or further on
factors_within : (n : ℕ) (s : List ℕ) (q : ℕ) → Stops s q (reached (form_of (factors_from n s q)))
unfolding factors_from
factors_within zero s q = (omega arith, λ l. l)
factors_within (suc n) s q = go (stands "*" s q) refl (end_of (term_at s (q + 1))) (term_reaches s (q + 1)) (λ m. factors_within n s m)
  where
    go : (b : Bool) → stands "*" s q ≡ b → (f : Result ℕ ℕ) → Reaches s (q + 1) f → ((m : ℕ) → Stops s m (reached (form_of (factors_from n s m))))
        → Stops s q (reached (form_of (pick b (behind f (λ m. onto (placed_at s (q + 1)) (factors_from n s m))) (up_to [] q))))
    go true t (Ok m) w ih =
        let (a, c) = ih m in
        rw (form_onto (placed_at s (q + 1)) (factors_from n s m)) (omega arith, λ l. c w.1)
    go true t (Err m) w ih = (omega arith, λ l. w.1 (omega (arith, stands-inside 42 s q (omega arith) t)))
    go false t f w ih = (omega arith, λ l. l)

pub product_reaches : (s : List ℕ) (p : ℕ) → Reaches s p (form_of (product_at s p))
unfolding product_at factors_at
product_reaches s p = go (end_of (term_at s p)) (term_reaches s p)
  where
    same : (x : Placed) (k : Read (List Placed)) → form_of (onto_factors x k) ≡ form_of k
    same x (up_to xs m) = refl
    same x (fails m) = refl

    go : (f : Result ℕ ℕ) → Reaches s p f → Reaches s p (form_of (behind f (λ m. onto_factors (placed_at s p) (factors_from (suc (length s)) s m))))
    go (Ok m) w =
        rw (same (placed_at s p) (factors_from (suc (length s)) s m))
        (further s p m (omega arith) w.1 (form_of (factors_from (suc (length s)) s m)) (factors_within (suc (length s)) s m) w.0)
    go (Err m) w = w

pub product-within : (s : List ℕ) (p q : ℕ) → form_of (product_at s p) ≡ Ok q → (p < q) × (q ≤ length s)
product-within s p q e = let w = product_reaches s p in rw e at w

pub joins-inside : (s : List ℕ) (q : ℕ) → joins s q ≡ true → q < length s
joins-inside s q e = go (stands "+" s q) refl (stands "-" s q) refl e
  where
    go : (a : Bool) → stands "+" s q ≡ a → (b : Bool) → stands "-" s q ≡ b → either a b ≡ true → q < length s
    go true h b k e = stands-inside 43 s q (omega arith) h
    go false h true k e = stands-inside 45 s q (omega arith) k
    go false h false k e = clash (cc)

products_reach : (n : ℕ) (minus : Bool) (s : List ℕ) (p : ℕ) → Reaches s p (form_of (products_from n minus s p))
unfolding products_from
products_reach zero minus s p = (omega arith, λ l. l)
products_reach (suc n) minus s p = go (product_at s p) (product_reaches s p) (λ m q. products_reach n m s q)
  where
    on : (q : ℕ) → (p < q) × (q ≤ length s) → ((m : Bool) (r : ℕ) → Reaches s r (form_of (products_from n m s r))) → (b : Bool) → joins s q ≡ b
        → Reaches s p (form_of (pick b (products_from n (stands "-" s q) s (q + 1)) (up_to [] q)))
    on q w ih true j =
        let i = joins-inside s q j in
        let f = form_of (products_from n (stands "-" s q) s (q + 1)) in
        further s p (q + 1) (omega arith) (omega arith) f (stops s (q + 1) f (ih (stands "-" s q) (q + 1))) (omega arith)
    on q w ih false j = w

    go : (x : Read (Product Placed)) → Reaches s p (form_of x) → ((m : Bool) (r : ℕ) → Reaches s r (form_of (products_from n m s r)))
        → Reaches s p (form_of (onto_products minus x (λ q. pick (joins s q) (products_from n (stands "-" s q) s (q + 1)) (up_to [] q))))
    go (up_to x q) w ih =
        rw (form_onto (record { minus = minus; product = x }) (pick (joins s q) (products_from n (stands "-" s q) s (q + 1)) (up_to [] q)))
        (on q w ih (joins s q) refl)
    go (fails q) w ih = w

-- an expression ends behind its position and inside the columns, or fails from its position on, not past the columns
pub expression_reaches : (s : List ℕ) (at : ℕ) → Reaches s at (form_of (expression_at s at))
unfolding products_at
expression_reaches s at = products_reach (suc (length s)) false s at

-- THE BOUNDS ARE ENOUGH

-- past the columns no character stands
stands-none : (k : ℕ) (s : List ℕ) (q : ℕ) → 0 < k → length s ≤ q → eqb (get_or s q 0) k ≡ false
stands-none k s q p h = go (eqb (get_or s q 0) k) refl
  where
    go : (b : Bool) → eqb (get_or s q 0) k ≡ b → b ≡ false
    go true e = absurd (omega (arith, stands-inside k s q p e))
    go false e = refl

factors_enough : (n m : ℕ) (s : List ℕ) (q : ℕ) → length s ≤ n + q → length s ≤ m + q → factors_from (suc n) s q ≡ factors_from (suc m) s q
unfolding factors_from
factors_enough zero m s q h k = rw (stands-none 42 s q (omega arith) (omega arith))
factors_enough (suc n) zero s q h k = rw (stands-none 42 s q (omega arith) (omega arith))
factors_enough (suc n) (suc m) s q h k = go (end_of (term_at s (q + 1))) (λ r. end-within s (q + 1) r) (λ r i. factors_enough n m s r (omega arith) (omega arith))
  where
    go : (f : Result ℕ ℕ) → ((r : ℕ) → f ≡ Ok r → (q + 1 < r) × (r ≤ length s))
        → ((r : ℕ) → q + 1 < r → factors_from (suc n) s r ≡ factors_from (suc m) s r)
        → pick (stands "*" s q) (behind f (λ r. onto (placed_at s (q + 1)) (factors_from (suc n) s r))) (up_to [] q)
        ≡ pick (stands "*" s q) (behind f (λ r. onto (placed_at s (q + 1)) (factors_from (suc m) s r))) (up_to [] q)
    go (Ok r) w ih = rw (ih r (w r refl).0)
    go (Err r) w ih = refl

factors_more_enough : (n : ℕ) (s : List ℕ) (q : ℕ) → 0 < q → q ≤ length s → length s ≤ n → factors_from n s q ≡ factors_from (suc n) s q
factors_more_enough zero s q h i l = absurd (omega arith)
factors_more_enough (suc n) s q h i l = factors_enough n (suc n) s q (omega arith) (omega arith)

-- the factors from a position on, without a bound
pub factors_are : (s : List ℕ) (q : ℕ)
    → factors_at s q ≡ pick (stands "*" s q) (behind (end_of (term_at s (q + 1))) (λ r. onto (placed_at s (q + 1)) (factors_at s r))) (up_to [] q)
unfolding factors_from factors_at
factors_are s q = go (end_of (term_at s (q + 1))) (λ r. end-within s (q + 1) r)
  where
    go : (f : Result ℕ ℕ) → ((r : ℕ) → f ≡ Ok r → (q + 1 < r) × (r ≤ length s))
        → pick (stands "*" s q) (behind f (λ r. onto (placed_at s (q + 1)) (factors_from (length s) s r))) (up_to [] q)
        ≡ pick (stands "*" s q) (behind f (λ r. onto (placed_at s (q + 1)) (factors_from (suc (length s)) s r))) (up_to [] q)
    go (Ok r) w = let (a, i) = w r refl in rw (factors_more_enough (length s) s r (omega arith) i (omega arith))
    go (Err r) w = refl

products_enough : (n m : ℕ) (minus : Bool) (s : List ℕ) (p : ℕ) → length s ≤ n + p → length s ≤ m + p → products_from (suc n) minus s p ≡ products_from (suc m) minus s p
unfolding products_from
products_enough zero m minus s p h k = go (product_at s p) (λ q. product-within s p q)
  where
    go : (x : Read (Product Placed)) → ((q : ℕ) → form_of x ≡ Ok q → (p < q) × (q ≤ length s))
        → onto_products minus x (λ q. pick (joins s q) (products_from 0 (stands "-" s q) s (q + 1)) (up_to [] q))
        ≡ onto_products minus x (λ q. pick (joins s q) (products_from m (stands "-" s q) s (q + 1)) (up_to [] q))
    go (up_to x q) w = let (a, b) = w q refl in absurd (omega arith)
    go (fails q) w = refl
products_enough (suc n) zero minus s p h k = go (product_at s p) (λ q. product-within s p q)
  where
    go : (x : Read (Product Placed)) → ((q : ℕ) → form_of x ≡ Ok q → (p < q) × (q ≤ length s))
        → onto_products minus x (λ q. pick (joins s q) (products_from (suc n) (stands "-" s q) s (q + 1)) (up_to [] q))
        ≡ onto_products minus x (λ q. pick (joins s q) (products_from 0 (stands "-" s q) s (q + 1)) (up_to [] q))
    go (up_to x q) w = let (a, b) = w q refl in absurd (omega arith)
    go (fails q) w = refl
products_enough (suc n) (suc m) minus s p h k =
    go (product_at s p) (λ q. product-within s p q) (λ q i. products_enough n m (stands "-" s q) s (q + 1) (omega arith) (omega arith))
  where
    go : (x : Read (Product Placed)) → ((q : ℕ) → form_of x ≡ Ok q → (p < q) × (q ≤ length s))
        → ((q : ℕ) → p < q → products_from (suc n) (stands "-" s q) s (q + 1) ≡ products_from (suc m) (stands "-" s q) s (q + 1))
        → onto_products minus x (λ q. pick (joins s q) (products_from (suc n) (stands "-" s q) s (q + 1)) (up_to [] q))
        ≡ onto_products minus x (λ q. pick (joins s q) (products_from (suc m) (stands "-" s q) s (q + 1)) (up_to [] q))
    go (up_to x q) w ih = rw (ih q (w q refl).0)
    go (fails q) w ih = refl

products_more_enough : (n : ℕ) (minus : Bool) (s : List ℕ) (p : ℕ) → 0 < p → p ≤ length s → length s ≤ n → products_from n minus s p ≡ products_from (suc n) minus s p
products_more_enough zero minus s p h i l = absurd (omega arith)
products_more_enough (suc n) minus s p h i l = products_enough n (suc n) minus s p (omega arith) (omega arith)

-- the products from a position on, without a bound
pub products_are : (minus : Bool) (s : List ℕ) (p : ℕ)
    → products_at minus s p ≡ onto_products minus (product_at s p) (λ q. pick (joins s q) (products_at (stands "-" s q) s (q + 1)) (up_to [] q))
unfolding products_from products_at
products_are minus s p = go (product_at s p)
  where
    on : (q : ℕ) (b : Bool) → joins s q ≡ b
        → pick b (products_from (length s) (stands "-" s q) s (q + 1)) (up_to [] q) ≡ pick b (products_from (suc (length s)) (stands "-" s q) s (q + 1)) (up_to [] q)
    on q true e = products_more_enough (length s) (stands "-" s q) s (q + 1) (omega arith) (omega (arith, joins-inside s q e)) (omega arith)
    on q false e = refl

    go : (x : Read (Product Placed))
        → onto_products minus x (λ q. pick (joins s q) (products_from (length s) (stands "-" s q) s (q + 1)) (up_to [] q))
        ≡ onto_products minus x (λ q. pick (joins s q) (products_from (suc (length s)) (stands "-" s q) s (q + 1)) (up_to [] q))
    go (up_to x q) = ap (onto (record { minus = minus; product = x })) (on q (joins s q) refl)
    go (fails q) = refl

-- A TURN OF EACH READER

module _ (s : List ℕ) (q : ℕ) where
  pub factors_more : (r : ℕ) → stands "*" s q ≡ true → end_of (term_at s (q + 1)) ≡ Ok r → factors_at s q ≡ onto (placed_at s (q + 1)) (factors_at s r)
  factors_more r t e = factors_are s q ∙ rw (t, e)

  pub factors_fail : (r : ℕ) → stands "*" s q ≡ true → end_of (term_at s (q + 1)) ≡ Err r → factors_at s q ≡ fails r
  factors_fail r t e = factors_are s q ∙ rw (t, e)

  pub factors_stop : stands "*" s q ≡ false → factors_at s q ≡ up_to [] q
  factors_stop t = factors_are s q ∙ rw t

  pub product-more : (r : ℕ) → end_of (term_at s q) ≡ Ok r → product_at s q ≡ onto_factors (placed_at s q) (factors_at s r)
  unfolding product_at
  product-more r e = rw e

  pub product_fail : (r : ℕ) → end_of (term_at s q) ≡ Err r → product_at s q ≡ fails r
  unfolding product_at
  product_fail r e = rw e

-- the same of the positions alone
module _ (s : List ℕ) where
  pub form_factors : (q r : ℕ) → stands "*" s q ≡ true → end_of (term_at s (q + 1)) ≡ Ok r → form_of (factors_at s q) ≡ form_of (factors_at s r)
  form_factors q r t e = ap form_of (factors_more s q r t e) ∙ form_onto (placed_at s (q + 1)) (factors_at s r)

  pub form_product : (p q : ℕ) → end_of (term_at s p) ≡ Ok q → form_of (product_at s p) ≡ form_of (factors_at s q)
  form_product p q e = ap form_of (product-more s p q e) ∙ go (factors_at s q)
    where
      go : (k : Read (List Placed)) → form_of (onto_factors (placed_at s p) k) ≡ form_of k
      go (up_to xs r) = refl
      go (fails r) = refl

  -- where the products end of which the first ends here
  abbrev pub form_behind : Result ℕ ℕ → Result ℕ ℕ
  form_behind (Ok q) = pick (joins s q) (form_of (products_at (stands "-" s q) s (q + 1))) (Ok q)
  form_behind (Err q) = Err q

  pub form_products : (minus : Bool) (p : ℕ) → form_of (products_at minus s p) ≡ form_behind (form_of (product_at s p))
  form_products minus p = ap form_of (products_are minus s p) ∙ go (product_at s p)
    where
      on : (x : Product Placed) (q : ℕ) (b : Bool)
          → form_of (onto (record { minus = minus; product = x }) (pick b (products_at (stands "-" s q) s (q + 1)) (up_to [] q))) ≡ pick b (form_of (products_at (stands "-" s q) s (q + 1))) (Ok q)
      on x q true = form_onto (record { minus = minus; product = x }) (products_at (stands "-" s q) s (q + 1))
      on x q false = refl

      go : (x : Read (Product Placed))
          → form_of (onto_products minus x (λ q. pick (joins s q) (products_at (stands "-" s q) s (q + 1)) (up_to [] q))) ≡ form_behind (form_of x)
      go (up_to x q) = on x q (joins s q)
      go (fails q) = refl

  module _ (minus : Bool) (p q : ℕ) where
    pub form_more : joins s q ≡ true → form_of (product_at s p) ≡ Ok q → form_of (products_at minus s p) ≡ form_of (products_at (stands "-" s q) s (q + 1))
    form_more j e = form_products minus p ∙ rw (e, j)

    pub form_last : joins s q ≡ false → form_of (product_at s p) ≡ Ok q → form_of (products_at minus s p) ≡ Ok q
    form_last j e = form_products minus p ∙ rw (e, j)

    pub form_fail : form_of (product_at s p) ≡ Err q → form_of (products_at minus s p) ≡ Err q
    form_fail e = form_products minus p ∙ rw e

  -- a sign here, and a product behind it
  pub form_on : (q : ℕ) → joins s q ≡ true → form_behind (Ok q) ≡ form_behind (form_of (product_at s (q + 1)))
  form_on q j = rw j (form_products (stands "-" s q) (q + 1))
