-- Laws of the names as a list: finding after defining, raising, order and place.
use Rattle.std.specs.Prelude.{Option, Some, None}
use Prim.Native.Nat.{ℕ, zero, suc, ◌+◌, ◌≤◌, ◌<◌}
use mathlib.Core.List.{List, [], ◌∷◌, ◌++◌, map}
use mathlib.Core.Bool.{Bool, true, false}
use mathlib.Core.Path.{◌≡◌, refl, ap}
use native.Mathlib.Omega.{arith}
use lib.ListN.{length, get_or, take, drop, length-map}
use lib.Dec.{ltb, eqb}
use borrow.Author.Tests.{ltb-true, ltb-false, eqb-true, eqb-false, eq-eqb, ne_eqb, lt-ltb, le-ltb}
use Rattle.values.specs.Tests.{pick}
use Rattle.values.proofs.Laws.{clash, both_true}
use Rattle.names.specs.declared.Name.{Name}
use Rattle.names.specs.declared.Meaning.{Meaning}
use Rattle.names.specs.Names.{meaning}
use Rattle.names.specs.Names.{find, defined, above, ascending, refusal_of, name_refusal}
use Rattle.names.specs.Steps.{below}
use Rattle.names.specs.Raised.{raised_meaning, raised_name}

-- FINDING

-- after a name is defined, its number stands for it and every other number for what it stood for before
pub find-defined : (x : Name) (ns : List Name) (k : ℕ) → find (defined x ns) k ≡ pick (eqb x.number k) (Some (meaning x.value x.length)) (find ns k)
unfolding find defined
find-defined x [] k = refl
find-defined x (y ∷ ys) k = go (find-defined x ys k) (ltb y.number x.number) refl
  where
    swap : (a b : Bool) → eqb y.number k ≡ a → eqb x.number k ≡ b → y.number < x.number → (e f g : Option Meaning) → pick a e (pick b f g) ≡ pick b f (pick a e g)
    swap true true p q h e f g = let p' = eqb-true y.number k p in let q' = eqb-true x.number k q in absurd (omega arith)
    swap true false p q h e f g = refl
    swap false b p q h e f g = refl

    go : find (defined x ys) k ≡ pick (eqb x.number k) (Some (meaning x.value x.length)) (find ys k) → (b : Bool) → ltb y.number x.number ≡ b
        → find (pick b (y ∷ defined x ys) (x ∷ y ∷ ys)) k ≡ pick (eqb x.number k) (Some (meaning x.value x.length)) (find (y ∷ ys) k)
    go ih true h = rw ih (swap (eqb y.number k) (eqb x.number k) refl refl (ltb-true y.number x.number h) _ _ _)
    go ih false h = refl

-- one name more
pub defined-length : (x : Name) (ns : List Name) → length (defined x ns) ≡ length ns + 1
unfolding defined
defined-length x [] = refl
defined-length x (y ∷ ys) = go (defined-length x ys) (ltb y.number x.number)
  where
    go : length (defined x ys) ≡ length ys + 1 → (b : Bool) → length (pick b (y ∷ defined x ys) (x ∷ y ∷ ys)) ≡ suc (length ys) + 1
    go ih true = omega arith
    go ih false = omega arith

-- RAISING

pub find-raised : (d : ℕ) (ns : List Name) (k : ℕ) → find (map (raised_name d) ns) k ≡ raised_meaning d (find ns k)
unfolding find
find-raised d [] k = refl
find-raised d (x ∷ xs) k = rw (find-raised d xs k) (go (eqb x.number k))
  where
    go : (b : Bool) → pick b (raised_meaning d (Some (meaning x.value x.length))) (raised_meaning d (find xs k)) ≡ raised_meaning d (pick b (Some (meaning x.value x.length)) (find xs k))
    go true = refl
    go false = refl

pub defined-raised : (d : ℕ) (x : Name) (ns : List Name) → map (raised_name d) (defined x ns) ≡ defined (raised_name d x) (map (raised_name d) ns)
unfolding defined
defined-raised d x [] = refl
defined-raised d x (y ∷ ys) = go (defined-raised d x ys) (ltb y.number x.number)
  where
    go : map (raised_name d) (defined x ys) ≡ defined (raised_name d x) (map (raised_name d) ys) → (b : Bool)
        → map (raised_name d) (pick b (y ∷ defined x ys) (x ∷ y ∷ ys)) ≡ pick b (raised_name d y ∷ defined (raised_name d x) (map (raised_name d) ys)) (raised_name d x ∷ raised_name d y ∷ map (raised_name d) ys)
    go ih true = rw ih
    go ih false = refl

-- REFUSALS 16 AND 17

-- a name that is not refused is not defined yet, and there is room for it
pub refusal_none : (limit : ℕ) (ns : List Name) (k : ℕ) → name_refusal limit ns k ≡ 0 → (find ns k ≡ None) × (length ns < limit)
unfolding name_refusal
refusal_none limit ns k e = go (find ns k) refl e
  where
    go : (x : Option Meaning) → find ns k ≡ x → refusal_of limit (length ns) x ≡ 0 → (find ns k ≡ None) × (length ns < limit)
    go (Some m) h q = absurd (omega arith)
    go None h q = at (ltb (length ns) limit) refl q
      where
        at : (b : Bool) → ltb (length ns) limit ≡ b → pick {X = ℕ} b 0 17 ≡ 0 → (find ns k ≡ None) × (length ns < limit)
        at true p r = (h, ltb-true (length ns) limit p)
        at false p r = absurd (omega arith)

-- raising changes neither
pub refusal_raised : (d limit : ℕ) (ns : List Name) (k : ℕ) → name_refusal limit (map (raised_name d) ns) k ≡ name_refusal limit ns k
unfolding name_refusal
refusal_raised d limit ns k = rw (find-raised d ns k, length-map ns (raised_name d)) (go (find ns k))
  where
    go : (e : Option Meaning) → refusal_of limit (length ns) (raised_meaning d e) ≡ refusal_of limit (length ns) e
    go (Some m) = refl
    go None = refl

-- ORDER

pub ascending-none : ascending [] ≡ true
unfolding ascending
ascending-none = refl

-- a number that is not above k is none of those above k
find-above : (ns : List Name) (a k : ℕ) → above a ns ≡ true → k ≤ a → find ns k ≡ None
unfolding find above
find-above [] a k e h = refl
find-above (x ∷ xs) a k e h =
    let l = ltb-true a x.number (both_true (ltb a x.number) (above x.number xs) e).0 in
    rw (ne_eqb x.number k (λ q. omega arith)) (find-above xs x.number k (both_true (ltb a x.number) (above x.number xs) e).1 (omega arith))

above-defined : (x : Name) (ns : List Name) (a : ℕ) → a < x.number → above a ns ≡ true → find ns x.number ≡ None → above a (defined x ns) ≡ true
unfolding find above defined
above-defined x [] a h e f = rw (lt-ltb a x.number h)
above-defined x (y ∷ ys) a h e f = go (above-defined x ys y.number) (ltb y.number x.number) (eqb y.number x.number) refl refl f
  where
    l : a < y.number
    l = ltb-true a y.number (both_true (ltb a y.number) (above y.number ys) e).0

    r : above y.number ys ≡ true
    r = (both_true (ltb a y.number) (above y.number ys) e).1

    go : (y.number < x.number → above y.number ys ≡ true → find ys x.number ≡ None → above y.number (defined x ys) ≡ true)
        → (b c : Bool) → ltb y.number x.number ≡ b → eqb y.number x.number ≡ c → pick c (Some (meaning y.value y.length)) (find ys x.number) ≡ None
        → above a (pick b (y ∷ defined x ys) (x ∷ y ∷ ys)) ≡ true
    go ih b true p q u = clash (cc)
    go ih true false p q u = rw (lt-ltb a y.number l) (ih (ltb-true y.number x.number p) r u)
    go ih false false p q u =
        let n : x.number < y.number = omega (arith, ltb-false y.number x.number p, eqb-false y.number x.number q) in
        rw (lt-ltb a x.number h, lt-ltb x.number y.number n) r

-- defining a name that is not there keeps the order
pub ascending-defined : (x : Name) (ns : List Name) → ascending ns ≡ true → find ns x.number ≡ None → ascending (defined x ns) ≡ true
unfolding find ascending above defined
ascending-defined x [] e f = refl
ascending-defined x (y ∷ ys) e f = go (ltb y.number x.number) (eqb y.number x.number) refl refl f
  where
    go : (b c : Bool) → ltb y.number x.number ≡ b → eqb y.number x.number ≡ c → pick c (Some (meaning y.value y.length)) (find ys x.number) ≡ None
        → ascending (pick b (y ∷ defined x ys) (x ∷ y ∷ ys)) ≡ true
    go b true p q u = clash (cc)
    go true false p q u = above-defined x ys y.number (ltb-true y.number x.number p) e u
    go false false p q u =
        let n : x.number < y.number = omega (arith, ltb-false y.number x.number p, eqb-false y.number x.number q) in
        rw (lt-ltb x.number y.number n) e

-- PLACE

pub below_le : (k : ℕ) (ns : List Name) → below k ns ≤ length ns
unfolding below
below_le k [] = omega arith
below_le k (x ∷ xs) = go (ltb x.number k) (below_le k xs)
  where
    go : (b : Bool) → below k xs ≤ length xs → pick b (suc (below k xs)) 0 ≤ suc (length xs)
    go true h = omega arith
    go false h = omega arith

-- a name whose number is not lower is not before the place
pub below_down : (k : ℕ) (ns : List Name) (i : ℕ) (z : Name) → k ≤ (get_or ns i z).number → i < length ns → below k ns ≤ i
unfolding below
below_down k [] i z h l = absurd (omega arith)
below_down k (x ∷ xs) zero z h l = rw (le-ltb x.number k h) (omega arith)
below_down k (x ∷ xs) (suc i) z h l = go (ltb x.number k) (below_down k xs i z h (omega arith))
  where
    go : (b : Bool) → below k xs ≤ i → pick b (suc (below k xs)) 0 ≤ suc i
    go true h = omega arith
    go false h = omega arith

-- names above a are above it one by one
above_at : (a : ℕ) (ns : List Name) (i : ℕ) (z : Name) → above a ns ≡ true → i < length ns → a < (get_or ns i z).number
unfolding above
above_at a [] i z e l = absurd (omega arith)
above_at a (x ∷ xs) zero z e l = ltb-true a x.number (both_true (ltb a x.number) (above x.number xs) e).0
above_at a (x ∷ xs) (suc i) z e l =
    let h = ltb-true a x.number (both_true (ltb a x.number) (above x.number xs) e).0 in
    let g = above_at x.number xs i z (both_true (ltb a x.number) (above x.number xs) e).1 (omega arith) in
    omega arith

below-above : (k a : ℕ) (ns : List Name) (i : ℕ) (z : Name) → above a ns ≡ true → (get_or ns i z).number < k → i < length ns → i < below k ns
unfolding below above
below-above k a [] i z e h l = absurd (omega arith)
below-above k a (x ∷ xs) zero z e h l = rw (lt-ltb x.number k h) (omega arith)
below-above k a (x ∷ xs) (suc i) z e h l =
    let r = (both_true (ltb a x.number) (above x.number xs) e).1 in
    let g = above_at x.number xs i z r (omega arith) in
    let ih = below-above k x.number xs i z r h (omega arith) in
    let q : x.number < k = omega arith in
    rw (lt-ltb x.number k q) (omega arith)

-- where the names ascend, a name whose number is lower is before the place
pub below_up : (k : ℕ) (ns : List Name) (i : ℕ) (z : Name) → ascending ns ≡ true → (get_or ns i z).number < k → i < length ns → i < below k ns
unfolding ascending below
below_up k [] i z e h l = absurd (omega arith)
below_up k (x ∷ xs) zero z e h l = rw (lt-ltb x.number k h) (omega arith)
below_up k (x ∷ xs) (suc i) z e h l =
    let g = above_at x.number xs i z e (omega arith) in
    let ih = below-above k x.number xs i z e h (omega arith) in
    let q : x.number < k = omega arith in
    rw (lt-ltb x.number k q) (omega arith)

-- the name at the place has the number
pub find_met : (k : ℕ) (ns : List Name) (z : Name) → below k ns < length ns → (get_or ns (below k ns) z).number ≡ k
    → find ns k ≡ Some (meaning (get_or ns (below k ns) z).value (get_or ns (below k ns) z).length)
unfolding find below
find_met k [] z l e = absurd (omega arith)
find_met k (x ∷ xs) z l e = go (find_met k xs z) (ltb x.number k) refl l e
  where
    go : (below k xs < length xs → (get_or xs (below k xs) z).number ≡ k → find xs k ≡ Some (meaning (get_or xs (below k xs) z).value (get_or xs (below k xs) z).length))
        → (b : Bool) → ltb x.number k ≡ b → pick b (suc (below k xs)) 0 < suc (length xs) → (get_or (x ∷ xs) (pick b (suc (below k xs)) 0) z).number ≡ k
        → pick (eqb x.number k) (Some (meaning x.value x.length)) (find xs k) ≡ Some (meaning (get_or (x ∷ xs) (pick b (suc (below k xs)) 0) z).value (get_or (x ∷ xs) (pick b (suc (below k xs)) 0) z).length)
    go ih true p l e = rw (ne_eqb x.number k (λ q. omega (arith, ltb-true x.number k p))) (ih (omega arith) e)
    go ih false p l e = rw (eq-eqb x.number k e)

-- the name at the place has it not, or there is none: where the names ascend, the number is nowhere
missed : (k : ℕ) (x : Name) (xs : List Name) (z : Name) → above x.number xs ≡ true
    → (below k (x ∷ xs) < suc (length xs) → (get_or (x ∷ xs) (below k (x ∷ xs)) z).number ≡ k → ⊥) → find (x ∷ xs) k ≡ None
unfolding find below above
missed k x [] z e n = go (ltb x.number k) refl n
  where
    go : (b : Bool) → ltb x.number k ≡ b → (pick b 1 0 < 1 → (get_or (x ∷ []) (pick b 1 0) z).number ≡ k → ⊥) → pick (eqb x.number k) (Some (meaning x.value x.length)) None ≡ None
    go true p n = rw (ne_eqb x.number k (λ q. omega (arith, ltb-true x.number k p)))
    go false p n = rw (ne_eqb x.number k (λ q. n (omega arith) q))
missed k x (y ∷ ys) z e n = go (missed k y ys z (both_true (ltb x.number y.number) (above y.number ys) e).1) (ltb x.number k) refl n
  where
    go : ((below k (y ∷ ys) < suc (length ys) → (get_or (y ∷ ys) (below k (y ∷ ys)) z).number ≡ k → ⊥) → find (y ∷ ys) k ≡ None)
        → (b : Bool) → ltb x.number k ≡ b
        → (pick b (suc (below k (y ∷ ys))) 0 < suc (suc (length ys)) → (get_or (x ∷ y ∷ ys) (pick b (suc (below k (y ∷ ys))) 0) z).number ≡ k → ⊥)
        → pick (eqb x.number k) (Some (meaning x.value x.length)) (find (y ∷ ys) k) ≡ None
    go ih true p n = rw (ne_eqb x.number k (λ q. omega (arith, ltb-true x.number k p))) (ih (λ l q. n (omega arith) q))
    go ih false p n =
        rw (ne_eqb x.number k (λ q. n (omega arith) q)) (find-above (y ∷ ys) x.number k e (ltb-false x.number k p))

pub find-missed : (k : ℕ) (ns : List Name) (z : Name) → ascending ns ≡ true → (below k ns < length ns → (get_or ns (below k ns) z).number ≡ k → ⊥) → find ns k ≡ None
unfolding find ascending
find-missed k [] z e n = refl
find-missed k (x ∷ xs) z e n = missed k x xs z e n

-- a name defined stands at its place
pub defined-place : (x : Name) (ns : List Name) → defined x ns ≡ take (below x.number ns) ns ++ x ∷ drop (below x.number ns) ns
unfolding defined below
defined-place x [] = refl
defined-place x (y ∷ ys) = go (defined-place x ys) (ltb y.number x.number)
  where
    go : defined x ys ≡ take (below x.number ys) ys ++ x ∷ drop (below x.number ys) ys → (b : Bool)
        → pick b (y ∷ defined x ys) (x ∷ y ∷ ys) ≡ take (pick b (suc (below x.number ys)) 0) (y ∷ ys) ++ x ∷ drop (pick b (suc (below x.number ys)) 0) (y ∷ ys)
    go ih true = ap (λ l. y ∷ l) ih
    go ih false = refl
