-- A row is found by halving where the numbers of the rows rise.
use Prim.Native.Nat.{ℕ, zero, suc, ◌+◌, ◌≤◌, ◌<◌}
use mathlib.Core.List.{List}
use mathlib.Core.Path.{◌≡◌, refl, sym, ap, ◌∙◌, subst}
use mathlib.Core.Bool.{Bool, true, false}
use native.Mathlib.Decide.{dec_le}
use native.Mathlib.Omega.{arith}
use native.Mathlib.Numerals.{add-one}
use borrow.Author.Tests.{ltb-true, eqb-true, eq-eqb, ne_eqb}
use lib.Dec.{ltb, eqb}
use lib.ListN.{length}
use Rattle.values.specs.Tests.{pick}
use Rattle.letters.proofs.Every.{every, at}
use Rattle.mnemonics.specs.Sorted.{key_at, row_from, row_in, Rising}

-- THE FIRST ROW WITH A NUMBER

row_is : (rows : List (List ℕ)) (key m n a : ℕ) → a ≤ m → m < a + n → ((i : ℕ) → a ≤ i → i < m → key_at rows i ≡ key → ⊥) → key_at rows m ≡ key
    → row_from n rows key a ≡ m
unfolding row_from
row_is rows key m zero a l h before e = absurd (omega arith)
row_is rows key m (suc n) a l h before e =
    elim (dec_le m a) [
      | yes here ↦ let same : m ≡ a = omega arith in rw (eq-eqb (key_at rows a) key (ap (key_at rows) (sym same) ∙ e)) (sym same)
      | no later ↦
          rw (ne_eqb (key_at rows a) key (before a (omega arith) (omega arith)))
          (row_is rows key m n (a + 1) (omega arith) (omega arith) (λ i from. before i (omega arith)) e)
    ]

pub row-none : (rows : List (List ℕ)) (key n a : ℕ) → ((i : ℕ) → a ≤ i → i < a + n → key_at rows i ≡ key → ⊥) → row_from n rows key a ≡ a + n
unfolding row_from
row-none rows key zero a none = omega arith
row-none rows key (suc n) a none =
    rw (ne_eqb (key_at rows a) key (none a (omega arith) (omega arith)))
    (row-none rows key n (a + 1) (λ i from to. none i (omega arith) (omega arith)) ∙ omega arith)

-- a row that is found has the number, and every other answer is the number of rows
pub row-found : (rows : List (List ℕ)) (key n a : ℕ) → row_from n rows key a < a + n → key_at rows (row_from n rows key a) ≡ key
unfolding row_from
row-found rows key zero a h = absurd (omega arith)
row-found rows key (suc n) a h = go (eqb (key_at rows a) key) refl h (row-found rows key n (a + 1))
  where
    go : (x : Bool) → eqb (key_at rows a) key ≡ x → pick x a (row_from n rows key (a + 1)) < a + suc n
        → (row_from n rows key (a + 1) < a + 1 + n → key_at rows (row_from n rows key (a + 1)) ≡ key) → key_at rows (pick x a (row_from n rows key (a + 1))) ≡ key
    go true e l ih = eqb-true (key_at rows a) key e
    go false e l ih = ih (omega arith)

pub row_within : (rows : List (List ℕ)) (key n a : ℕ) → row_from n rows key a ≤ a + n
unfolding row_from
row_within rows key zero a = omega arith
row_within rows key (suc n) a = go (eqb (key_at rows a) key) (row_within rows key n (a + 1))
  where
    go : (x : Bool) → row_from n rows key (a + 1) ≤ a + 1 + n → pick x a (row_from n rows key (a + 1)) ≤ a + suc n
    go true l = omega arith
    go false l = omega arith

-- HALVING

module _ (rows : List (List ℕ)) (key : ℕ) (rising : Rising rows) where
  -- what is left lies between two rows: those below are too low, those from the upper one on too high
  abbrev pub Below : ℕ → Type 0
  Below low = (i : ℕ) → i < low → key_at rows i < key

  abbrev pub Above : ℕ → Type 0
  Above high = (i : ℕ) → high ≤ i → i < length rows → key < key_at rows i

  pub found : (m : ℕ) → m < length rows → key_at rows m ≡ key → m ≡ row_in rows key
  found m h e =
      sym
      (row_is rows key m (length rows) 0 (omega arith) (omega arith) (λ i from to same. omega (arith, rising i m to h)) e)

  pub absent : (low high : ℕ) → high ≤ low → Below low → Above high → length rows ≡ row_in rows key
  absent low high h below above =
      sym
      (row-none rows key (length rows) 0 (λ i from to same. elim (dec_le low i) [ yes up ↦ omega (arith, above i (omega arith) (omega arith)) | no down ↦ omega (arith, below i (omega arith)) ])
      ∙ omega arith)

  pub lower_half : (m : ℕ) → m < length rows → key_at rows m < key → Below (m + 1)
  lower_half m h less i l = elim (dec_le m i) [ yes up ↦ let same : i ≡ m = omega arith in rw same less | no down ↦ omega (arith, rising i m (omega arith) h) ]

  pub upper_half : (m : ℕ) → m < length rows → key < key_at rows m → Above m
  upper_half m h more i l k = elim (dec_le i m) [ yes down ↦ let same : i ≡ m = omega arith in rw same more | no up ↦ omega (arith, rising m i (omega arith) k) ]

-- RISING ROWS, BY A TEST

-- the row behind a row has the higher number
abbrev pub rises : List (List ℕ) → ℕ → Bool
rises rows i = ltb (key_at rows i) (key_at rows (i + 1))

pub rising_by : (rows : List (List ℕ)) (n : ℕ) → length rows ≡ n + 1 → every (rises rows) 0 n ≡ true → Rising rows
rising_by rows n size test i j less within = go j less within
  where
    step : (k : ℕ) → k < n → key_at rows k < key_at rows (suc k)
    step k h =
        subst (λ m. key_at rows k < key_at rows m) (add-one k)
        (ltb-true (key_at rows k) (key_at rows (k + 1)) (at (rises rows) n 0 k test (omega arith) (omega arith)))

    go : (j : ℕ) → i < j → j < length rows → key_at rows i < key_at rows j
    go zero l w = absurd (omega arith)
    go (suc j) l w =
        elim (dec_le j i) [
          | yes same ↦ let e : i ≡ j = omega arith in rw e (step j (omega arith))
          | no later ↦ omega (arith, go j (omega arith) (omega arith), step j (omega arith))
        ]
