-- Laws of names and terms.
use Prim.Native.Nat.{ℕ, zero, suc, ◌+◌, ◌-◌, ◌*◌, ◌≤◌, ◌<◌}
use mathlib.Core.List.{List}
use mathlib.Core.Path.{◌≡◌, refl}
use mathlib.Core.Bool.{Bool, true, false}
use native.Mathlib.Nat.{not-suc-le-zero, mul-le-mul}
use native.Mathlib.Numerals.{sub-one}
use native.Mathlib.Omega.{arith}
use lib.Dec.{leb}
use lib.ListN.{length, get_or}
use Rattle.values.specs.Tests.{pick}
use Rattle.terms.specs.declared.Digits.{Digits}
use Rattle.letters.specs.Letters.{class_of}
use Rattle.letters.proofs.Laws.{inside-accepted, name-accepted, start_goes_on}
use Rattle.terms.specs.Names.{starts_at, goes_on_at}
use Rattle.terms.specs.Terms.{digit_at, with_digit, digits_from}

-- A TURN OF EACH READER

pub digits_more : (n base : ℕ) (s : List ℕ) (at v : ℕ) → 0 < n → digit_at base s at ≡ true → leb (with_digit base s at v) 65535 ≡ true
    → digits_from n base s at v ≡ digits_from (n - 1) base s (at + 1) (with_digit base s at v)
unfolding digits_from
digits_more zero base s at v h t l = absurd (not-suc-le-zero h)
digits_more (suc n) base s at v h t l = rw (t, l, sub-one)

pub digits_over : (n base : ℕ) (s : List ℕ) (at v : ℕ) → leb (with_digit base s at v) 65535 ≡ false
    → digits_from n base s at v ≡ record { value = v; next = at }
unfolding digits_from
digits_over zero base s at v l = refl
digits_over (suc n) base s at v l = rw l (go (digit_at base s at))
  where
    stopped : Digits
    stopped = record { value = v; next = at }

    go : (x : Bool) → pick x stopped stopped ≡ stopped
    go true = refl
    go false = refl

pub digits_stop : (n base : ℕ) (s : List ℕ) (at v : ℕ) → digit_at base s at ≡ false → digits_from n base s at v ≡ record { value = v; next = at }
unfolding digits_from
digits_stop zero base s at v t = refl
digits_stop (suc n) base s at v t = rw t

-- a value of at most 65535 with a digit of a base of at most 16 behind it
pub appended-fits : (v base : ℕ) → v ≤ 65535 → base ≤ 16 → v * base ≤ 1048560
appended-fits v base h k =
    let m : v * base ≤ 65535 * 16 = mul-le-mul {n₁ = v} {m₁ = base} {n₂ = 65535} {m₂ = 16} (omega arith) (omega arith) in
    omega arith

-- a character of a name, and one that starts a name, stand inside
pub inside-name : (s : List ℕ) (at : ℕ) → goes_on_at s at ≡ true → at < length s
inside-name s at e = inside-accepted s at (name-accepted (class_of (get_or s at 0)) e)

pub inside-start : (s : List ℕ) (at : ℕ) → starts_at s at ≡ true → at < length s
inside-start s at e = inside-name s at (start_goes_on (class_of (get_or s at 0)) e)
