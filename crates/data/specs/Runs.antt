-- R8.3: runs of digits, of any length.
use Rattle.std.specs.Prelude.{ℕ, zero, suc, ◌+◌, ◌-◌, min, List, length, ltb}
use Rattle.letters.specs.Letters.{digit_of}
use Rattle.letters.specs.Text.{run_end}
use Rattle.terms.specs.Terms.{with_digit}

-- the position behind the digits of a base that stand from a position on; n bounds how many
abbrev pub digits_end_from : ℕ → ℕ → List ℕ → ℕ → ℕ
digits_end_from n base s at = run_end (λ b. ltb (digit_of b) base) n s at

-- no more than there are columns
unfoldable pub digits_end : ℕ → List ℕ → ℕ → ℕ
digits_end base s at = digits_end_from (length s) base s at

-- the number that n decimal digits from a position on write, behind the number v
unfoldable pub number_from : ℕ → List ℕ → ℕ → ℕ → ℕ
number_from zero s at v = v
number_from (suc n) s at v = number_from n s (at + 1) (with_digit 10 s at v)

-- a number is told no further than 65536, which is past every limit
unfoldable pub told : ℕ → ℕ
told n = min n 65536

-- the number between two positions
abbrev pub number_in : List ℕ → ℕ → ℕ → ℕ
number_in s at end = told (number_from (end - at) s at 0)
