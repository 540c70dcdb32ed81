-- R6.1, R6.2: the form of an expression, from the columns alone. A term that is none, and with it refusal 15, has its position.
use Rattle.std.specs.Prelude.{ℕ, zero, suc, ◌+◌, List, [], ◌∷◌, Bool, false, length, Result, Ok, Err}
use Rattle.letters.specs.Text.{stands}
use Rattle.values.specs.Tests.{pick, either}
use Rattle.terms.specs.declared.Term.{Term}
use Rattle.terms.specs.Terms.{term_at}

-- a term and the position at which it stands
pub record Placed : Type 0 where
  pub at : ℕ
  pub term : Result (Term × ℕ) ℕ

-- factors joined by *
pub record Product (X : Type 0) : Type 0 where
  pub first : X
  pub others : List X

-- a product after plus (or first), or after minus
pub record Addend (X : Type 0) : Type 0 where
  pub minus : Bool
  pub product : Product X

-- what was read and the position behind it; or the first position at which it could not go on
pub data Read (X : Type 0) : Type 0 where
  up_to : X → ℕ → Read X
  fails : ℕ → Read X

abbrev pub form_of : {X : Type 0} → Read X → Result ℕ ℕ
form_of (up_to x q) = Ok q
form_of (fails q) = Err q

-- R14.1: 15, not of the form
abbrev pub form_no : Result ℕ ℕ → ℕ
form_no (Ok q) = 0
form_no (Err q) = 15

-- the position behind a term, or the one at which it fails
abbrev pub end_of : Result (Term × ℕ) ℕ → Result ℕ ℕ
end_of (Ok (t, q)) = Ok q
end_of (Err q) = Err q

-- reading on behind an end
abbrev pub behind : {X : Type 0} → Result ℕ ℕ → (ℕ → Read X) → Read X
behind (Ok q) on = on q
behind (Err q) on = fails q

-- one more in front of those that follow
abbrev pub onto : {X : Type 0} → X → Read (List X) → Read (List X)
onto x (up_to xs q) = up_to (x ∷ xs) q
onto x (fails q) = fails q

abbrev pub placed_at : List ℕ → ℕ → Placed
placed_at s at = record { at = at; term = term_at s at }

-- R6.2: a `*` with a term behind it, as often as that stands there; n bounds how often
unfoldable pub factors_from : ℕ → List ℕ → ℕ → Read (List Placed)
factors_from zero s q = fails q
factors_from (suc n) s q =
    pick (stands "*" s q)
    (behind (end_of (term_at s (q + 1))) (λ r. onto (placed_at s (q + 1)) (factors_from n s r)))
    (up_to [] q)

-- no more than there are columns (proofs/Reading.antt shows that this is enough)
unfoldable pub factors_at : List ℕ → ℕ → Read (List Placed)
factors_at s q = factors_from (suc (length s)) s q

abbrev pub onto_factors : Placed → Read (List Placed) → Read (Product Placed)
onto_factors x (up_to xs q) = up_to (record { first = x; others = xs }) q
onto_factors x (fails q) = fails q

-- R6.3: a product: a term, and the factors behind it
unfoldable pub product_at : List ℕ → ℕ → Read (Product Placed)
product_at s p = behind (end_of (term_at s p)) (λ q. onto_factors (placed_at s p) (factors_at s q))

-- a + or a - stands at a position
abbrev pub joins : List ℕ → ℕ → Bool
joins s q = either (stands "+" s q) (stands "-" s q)

abbrev pub onto_products : Bool → Read (Product Placed) → (ℕ → Read (List (Addend Placed))) → Read (List (Addend Placed))
onto_products minus (up_to x q) on = onto (record { minus = minus; product = x }) (on q)
onto_products minus (fails q) on = fails q

-- R6.1: a product, and while + or - follows, that sign and a product; n bounds how many
unfoldable pub products_from : ℕ → Bool → List ℕ → ℕ → Read (List (Addend Placed))
products_from zero minus s p = fails p
products_from (suc n) minus s p =
    onto_products minus (product_at s p) (λ q. pick (joins s q) (products_from n (stands "-" s q) s (q + 1)) (up_to [] q))

-- the products from a position on, the first of them after minus or not
unfoldable pub products_at : Bool → List ℕ → ℕ → Read (List (Addend Placed))
products_at minus s p = products_from (suc (length s)) minus s p

-- the expression at a position
abbrev pub expression_at : List ℕ → ℕ → Read (List (Addend Placed))
expression_at s at = products_at false s at
