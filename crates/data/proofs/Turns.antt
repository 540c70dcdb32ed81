-- A turn of each reader: digits, the number that they write, characters.
use Prim.Native.Nat.{ℕ, zero, suc, ◌+◌, ◌-◌, ◌≤◌, ◌<◌}
use mathlib.Core.List.{List}
use mathlib.Core.Path.{◌≡◌}
use native.Mathlib.Nat.{not-suc-le-zero}
use native.Mathlib.Numerals.{sub-one}
use native.Mathlib.Omega.{arith}
use mathlib.Core.Bool.{true}
use borrow.Author.Tests.{ltb-true}
use lib.Dec.{eqb, ltb}
use lib.ListN.{length, get_or}
use Rattle.values.specs.Tests.{pick}
use Rattle.letters.specs.Letters.{digit_of}
use Rattle.letters.proofs.Laws.{inside-digit}
use Rattle.letters.proofs.Runs.{run_more}
use Rattle.terms.specs.declared.Quoted.TheVariants.{One, Closed}
use Rattle.terms.specs.Terms.{digit_at, with_digit, quoted_at}
use Rattle.data.specs.Runs.{digits_end_from, number_from, told}
use Rattle.data.specs.Form.{characters_from}
use Rattle.std.specs.Prelude.{Ok, Err}

-- DIGITS

pub digit-inside : (base : ℕ) (s : List ℕ) (at : ℕ) → base ≤ 16 → digit_at base s at ≡ true → at < length s
digit-inside base s at b t = inside-digit s at (omega (arith, ltb-true (digit_of (get_or s at 0)) base t))

pub digits_more : (n base : ℕ) (s : List ℕ) (at : ℕ) → base ≤ 16 → length s ≤ n + at → digit_at base s at ≡ true
    → digits_end_from n base s at ≡ digits_end_from (n - 1) base s (at + 1)
digits_more n base s at b l t = run_more (λ d. ltb (digit_of d) base) n s at (omega (arith, digit-inside base s at b t)) t

-- NUMBERS

-- what is told of two numbers stays the same behind a digit, and so behind more of them
same-told : (n : ℕ) (s : List ℕ) (at v w : ℕ) → told v ≡ told w → told (number_from n s at v) ≡ told (number_from n s at w)
unfolding told number_from
same-told zero s at v w e = e
same-told (suc n) s at v w e = same-told n s (at + 1) (with_digit 10 s at v) (with_digit 10 s at w) (omega arith)

pub number_more : (end : ℕ) (s : List ℕ) (at v w : ℕ) → at < end → w ≡ told (with_digit 10 s at v)
    → told (number_from (end - (at + 1)) s (at + 1) w) ≡ told (number_from (end - at) s at v)
unfolding told number_from
number_more end s at v w h e =
    let k : end - at ≡ suc (end - (at + 1)) = omega arith in
    rw k (same-told (end - (at + 1)) s (at + 1) w (with_digit 10 s at v) (omega arith))

pub number-done : (end : ℕ) (s : List ℕ) (at v : ℕ) → end ≤ at → v ≤ 65536 → v ≡ told (number_from (end - at) s at v)
unfolding told number_from
number-done end s at v h l = let k : end - at ≡ 0 = omega arith in rw k (omega arith)

pub told-fits : (n : ℕ) → told n ≤ 65536
unfolding told
told-fits n = omega arith

-- CHARACTERS

module _ (s : List ℕ) (at next k : ℕ) where
  pub characters_more : (n code : ℕ) → 0 < n → quoted_at s at ≡ Ok (One code, next) → characters_from n s at k ≡ characters_from (n - 1) s next (k + 1)
  unfolding characters_from
  characters_more zero code h e = absurd (not-suc-le-zero h)
  characters_more (suc n) code h e = rw (e, sub-one)

  pub characters_closed : (n : ℕ) → 0 < n → quoted_at s at ≡ Ok (Closed, next)
      → characters_from n s at k ≡ pick (eqb k 0) (Err next) (Ok ((told k), next))
  unfolding characters_from
  characters_closed zero h e = absurd (not-suc-le-zero h)
  characters_closed (suc n) h e = rw e

  pub characters_none : (n : ℕ) → 0 < n → quoted_at s at ≡ Err next → characters_from n s at k ≡ Err next
  unfolding characters_from
  characters_none zero h e = absurd (not-suc-le-zero h)
  characters_none (suc n) h e = rw e
