-- Where a run of bytes ends: a turn of its reader, and its bounds.
use Prim.Native.Nat.{ℕ, zero, suc, ◌+◌, ◌-◌, ◌≤◌, ◌<◌}
use mathlib.Core.List.{List}
use mathlib.Core.Path.{◌≡◌, refl, ap, sym, ◌∙◌}
use mathlib.Core.Bool.{Bool, true, false, cond}
use native.Mathlib.Nat.{not-suc-le-zero}
use native.Mathlib.Numerals.{sub-one}
use native.Mathlib.Decide.{dec_le}
use native.Mathlib.Omega.{arith}
use lib.ListN.{length, get_or, get_or-eq_default, drop, drop_of_length-le, take}
use lib.Seq.{drop-cons}
use Rattle.std.specs.List.{prefix_len}
use Rattle.values.specs.Tests.{pick}
use Rattle.values.proofs.Laws.{clash}
use Rattle.letters.specs.Text.{run_end}
use Rattle.letters.proofs.Laws.{inside}

module _ (goes : ℕ → Bool) where
  pub run_more : (n : ℕ) (s : List ℕ) (at : ℕ) → 0 < n → goes (get_or s at 0) ≡ true → run_end goes n s at ≡ run_end goes (n - 1) s (at + 1)
  unfolding run_end
  run_more zero s at h e = absurd (not-suc-le-zero h)
  run_more (suc n) s at h e = rw (e, sub-one)

  pub run_stop : (n : ℕ) (s : List ℕ) (at : ℕ) → goes (get_or s at 0) ≡ false → run_end goes n s at ≡ at
  unfolding run_end
  run_stop zero s at e = refl
  run_stop (suc n) s at e = rw e

  pub run_none : (n : ℕ) (s : List ℕ) (at : ℕ) → n ≤ 0 → run_end goes n s at ≡ at
  unfolding run_end
  run_none zero s at h = refl
  run_none (suc n) s at h = absurd (not-suc-le-zero h)

  -- it ends where it starts or behind, and at most n further on
  pub run_bounds : (n : ℕ) (s : List ℕ) (at : ℕ) → (at ≤ run_end goes n s at) × (run_end goes n s at ≤ at + n)
  unfolding run_end
  run_bounds zero s at = (omega arith, omega arith)
  run_bounds (suc n) s at = go (goes (get_or s at 0)) (run_bounds n s (at + 1))
    where
      go : (x : Bool) → (at + 1 ≤ run_end goes n s (at + 1)) × (run_end goes n s (at + 1) ≤ at + 1 + n)
          → (at ≤ pick x (run_end goes n s (at + 1)) at) × (pick x (run_end goes n s (at + 1)) at ≤ at + suc n)
      go true ih = (omega arith, omega arith)
      go false ih = (omega arith, omega arith)

  -- past the end stands 0: a run that 0 is no part of ends inside
  pub run_inside : goes 0 ≡ false → (n : ℕ) (s : List ℕ) (at : ℕ) → at < run_end goes n s at → run_end goes n s at ≤ length s
  unfolding run_end
  run_inside z zero s at h = absurd (omega arith)
  run_inside z (suc n) s at h = go (goes (get_or s at 0)) refl (run_inside z n s (at + 1)) h
    where
      within : goes (get_or s at 0) ≡ true → at < length s
      within e = inside s at (λ q. let f : true ≡ false = sym e ∙ ap goes q ∙ z in clash (cc))

      last : (m : ℕ) → (at + 1 < m → m ≤ length s) → at < length s → m ≤ length s
      last m f i = elim (dec_le m (at + 1)) [ yes small ↦ omega arith | no large ↦ f (omega arith) ]

      go : (x : Bool) → goes (get_or s at 0) ≡ x → (at + 1 < run_end goes n s (at + 1) → run_end goes n s (at + 1) ≤ length s)
          → at < pick x (run_end goes n s (at + 1)) at → pick x (run_end goes n s (at + 1)) at ≤ length s
      go true e ih h = last (run_end goes n s (at + 1)) ih (within e)
      go false e ih h = absurd (omega arith)

  -- it ends behind the bytes that pass from the position on, if past the end none does
  pub run_prefix : (n : ℕ) (s : List ℕ) (at : ℕ) → (length s < at + n → goes 0 ≡ false) → run_end goes n s at ≡ at + prefix_len goes (take n (drop at s))
  unfolding run_end
  run_prefix zero s at past = omega arith
  run_prefix (suc n) s at past =
      elim (dec_le (length s) at) [
        | yes over ↦ rw (drop_of_length-le s over, get_or-eq_default s 0 over, past (omega arith)) (omega arith)
        | no within ↦ rw (drop-cons s at 0 (omega arith)) (turn (goes (get_or s at 0)) (suc at) (omega arith) (run_prefix n s (at + 1) (λ h. past (omega arith))))
      ]
    where
      turn : (x : Bool) (next : ℕ) → at + 1 ≡ next → run_end goes n s (at + 1) ≡ at + 1 + prefix_len goes (take n (drop (at + 1) s))
          → pick x (run_end goes n s (at + 1)) at ≡ at + cond x (1 + prefix_len goes (take n (drop next s))) 0
      turn true next e ih = rw (sym e) (omega (arith, ih))
      turn false next e ih = omega arith
