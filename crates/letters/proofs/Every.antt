-- A test at each number of a range, which the checker computes, and what follows at every one of them.
use Prim.Native.Nat.{ℕ, zero, suc, ◌+◌, ◌≤◌, ◌<◌}
use mathlib.Core.Path.{◌≡◌}
use mathlib.Core.Bool.{Bool, true}
use native.Mathlib.Decide.{dec_le}
use native.Mathlib.Omega.{arith}
use Rattle.values.specs.Tests.{both}
use Rattle.values.proofs.Laws.{both_true}

-- the test passes at the n numbers from a on
unfoldable pub every : (ℕ → Bool) → ℕ → ℕ → Bool
every f a zero = true
every f a (suc n) = both (f a) (every f (a + 1) n)

pub at : (f : ℕ → Bool) (n a b : ℕ) → every f a n ≡ true → a ≤ b → b < a + n → f b ≡ true
unfolding every
at f zero a b e l h = absurd (omega arith)
at f (suc n) a b e l h =
    elim (dec_le (a + 1) b) [
      | yes more ↦ at f n (a + 1) b (both_true (f a) (every f (a + 1) n) e).1 more (omega arith)
      | no less ↦ let same : b ≡ a = omega arith in rw same (both_true (f a) (every f (a + 1) n) e).0
    ]
