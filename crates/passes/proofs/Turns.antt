-- A turn of each pass: the first card goes through, or the pass stops at it.
use Rattle.std.specs.Prelude.{Option}
use Prim.Native.Nat.{ℕ, ◌+◌}
use mathlib.Core.List.{List, [], ◌∷◌}
use mathlib.Core.Path.{◌≡◌, refl}
use mathlib.Core.Bool.{Bool, true, false}
use lib.Dec.{eqb}
use borrow.Author.Tests.{eq-eqb, ne_eqb, eqb-true}
use Rattle.values.proofs.Laws.{clash}
use Rattle.values.specs.Tests.{pick}
use Rattle.names.specs.declared.Meaning.{Meaning}
use Rattle.passes.specs.declared.Course.{Course}
use Rattle.passes.specs.Two.Checked.{clean, bad}
use Rattle.passes.specs.One.{State, one_no, step_one, pass_one, ended_as}
use Rattle.passes.specs.One.Passed.{through, stopped}
use Rattle.passes.specs.Two.{two_no, step_two, check_two}

-- PASS ONE

pub pass-more : (k : ℕ) (st : State) (s : List ℕ) (ss : List (List ℕ)) → one_no st s ≡ 0 → pass_one k st (s ∷ ss) ≡ pass_one (k + 1) (step_one st s) ss
unfolding pass_one
pass-more k st s ss h = rw (eq-eqb _ _ h)

pub pass-stop : (k : ℕ) (st : State) (s : List ℕ) (ss : List (List ℕ)) → (one_no st s ≡ 0 → ⊥) → pass_one k st (s ∷ ss) ≡ stopped (one_no st s) k
unfolding pass_one
pass-stop k st s ss h = rw (ne_eqb _ _ h)

pub pass-end : (k : ℕ) (st : State) → pass_one k st [] ≡ ended_as st.phase st
unfolding pass_one
pass-end k st = refl

pub pass_turn : (k : ℕ) (st a : State) (s : List ℕ) (ss : List (List ℕ)) → pass_one k st (s ∷ ss) ≡ through a → (one_no st s ≡ 0) × (pass_one (k + 1) (step_one st s) ss ≡ through a)
unfolding pass_one
pass_turn k st a s ss h = go (eqb (one_no st s) 0) refl h
  where
    go : (b : Bool) → eqb (one_no st s) 0 ≡ b → pick b (pass_one (k + 1) (step_one st s) ss) (stopped (one_no st s) k) ≡ through a
        → (one_no st s ≡ 0) × (pass_one (k + 1) (step_one st s) ss ≡ through a)
    go true e h = (eqb-true _ 0 e, h)
    go false e h = clash (cc)

-- PASS TWO

pub check-more : (look : ℕ → Option Meaning) (k : ℕ) (c : Course) (s : List ℕ) (ss : List (List ℕ)) → two_no look c s ≡ 0 → check_two look k c (s ∷ ss) ≡ check_two look (k + 1) (step_two look c s) ss
unfolding check_two
check-more look k c s ss h = rw (eq-eqb _ _ h)

pub check-stop : (look : ℕ → Option Meaning) (k : ℕ) (c : Course) (s : List ℕ) (ss : List (List ℕ)) → (two_no look c s ≡ 0 → ⊥) → check_two look k c (s ∷ ss) ≡ bad (two_no look c s) k
unfolding check_two
check-stop look k c s ss h = rw (ne_eqb _ _ h)

pub check-end : (look : ℕ → Option Meaning) (k : ℕ) (c : Course) → check_two look k c [] ≡ clean
unfolding check_two
check-end look k c = refl

pub check_turn : (look : ℕ → Option Meaning) (k : ℕ) (c : Course) (s : List ℕ) (ss : List (List ℕ)) → check_two look k c (s ∷ ss) ≡ clean
    → (two_no look c s ≡ 0) × (check_two look (k + 1) (step_two look c s) ss ≡ clean)
unfolding check_two
check_turn look k c s ss h = go (eqb (two_no look c s) 0) refl h
  where
    go : (b : Bool) → eqb (two_no look c s) 0 ≡ b → pick b (check_two look (k + 1) (step_two look c s) ss) (bad (two_no look c s) k) ≡ clean
        → (two_no look c s ≡ 0) × (check_two look (k + 1) (step_two look c s) ss ≡ clean)
    go true e h = (eqb-true _ 0 e, h)
    go false e h = clash (cc)
