-- Refusals joined, none of which holds where the joined one does not; and numbers, which tell refusals apart.
use Prim.Native.Nat.{ℕ, ◌<◌}
use native.Mathlib.Omega.{arith}
use mathlib.Core.Path.{◌≡◌, refl, sym, ap, ◌∙◌}
use mathlib.Core.Bool.{Bool, true, false}
use lib.Dec.{ltb, eqb}
use borrow.Author.Tests.{eqb-true, eqb-false}
use Rattle.values.specs.Tests.{pick, or_else, lower}
use Rattle.std.specs.Prelude.{Option, Some, None, Result, Ok, Err}
use Rattle.values.specs.Refusals.{number_of, number_in}
use Rattle.values.specs.declared.refusals.Refusal.{Refusal}
use Rattle.values.specs.declared.refusals.Refusal.TheVariants.{BrokenCard, TooManyCards, SmallWorkArea, MisplacedEnd, BadByte, BadName, UnknownOperation, MisplacedStart, MisplacedName, Malformed, DefinedBefore, TooManyNames, Undefined, WrongKind, OutOfRange, BadSize, NoBase, OutOfReach, NoRoom, SmallOutput}

pub or_zero : (a b : ℕ) → or_else a b ≡ 0 → (a ≡ 0) × (b ≡ 0)
unfolding or_else
or_zero a b h = go (eqb a 0) refl h
  where
    go : (t : Bool) → eqb a 0 ≡ t → pick t b a ≡ 0 → (a ≡ 0) × (b ≡ 0)
    go true e h = (eqb-true a 0 e, h)
    go false e h = absurd (eqb-false a 0 e h)

pub or_none : (b : ℕ) → or_else 0 b ≡ b
unfolding or_else
or_none b = refl

pub lower-zero : (a b : ℕ) → lower a b ≡ 0 → (a ≡ 0) × (b ≡ 0)
unfolding lower
lower-zero a b h = go (eqb a 0) (eqb b 0) (ltb a b) refl refl h
  where
    go : (s t u : Bool) → eqb a 0 ≡ s → eqb b 0 ≡ t → pick s b (pick t a (pick u a b)) ≡ 0 → (a ≡ 0) × (b ≡ 0)
    go true t u e f h = (eqb-true a 0 e, h)
    go false true u e f h = absurd (eqb-false a 0 e h)
    go false false true e f h = absurd (eqb-false a 0 e h)
    go false false false e f h = absurd (eqb-false b 0 f h)

-- every refusal has a number
pub number_above : (r : Refusal) → 0 < number_of r
number_above BrokenCard = omega arith
number_above TooManyCards = omega arith
number_above SmallWorkArea = omega arith
number_above MisplacedEnd = omega arith
number_above BadByte = omega arith
number_above BadName = omega arith
number_above UnknownOperation = omega arith
number_above MisplacedStart = omega arith
number_above MisplacedName = omega arith
number_above Malformed = omega arith
number_above DefinedBefore = omega arith
number_above TooManyNames = omega arith
number_above Undefined = omega arith
number_above WrongKind = omega arith
number_above OutOfRange = omega arith
number_above BadSize = omega arith
number_above NoBase = omega arith
number_above OutOfReach = omega arith
number_above NoRoom = omega arith
number_above SmallOutput = omega arith

-- NUMBERS TELL REFUSALS APART

-- the refusal with a number
refusal_at : ℕ → Option Refusal
refusal_at n =
    pick (eqb n 1) (Some BrokenCard)
    (pick (eqb n 2) (Some TooManyCards)
    (pick (eqb n 3) (Some SmallWorkArea)
    (pick (eqb n 9) (Some MisplacedEnd)
    (pick (eqb n 10) (Some BadByte)
    (pick (eqb n 11) (Some BadName)
    (pick (eqb n 12) (Some UnknownOperation)
    (pick (eqb n 13) (Some MisplacedStart)
    (pick (eqb n 14) (Some MisplacedName)
    (pick (eqb n 15) (Some Malformed)
    (pick (eqb n 16) (Some DefinedBefore)
    (pick (eqb n 17) (Some TooManyNames)
    (pick (eqb n 18) (Some Undefined)
    (pick (eqb n 19) (Some WrongKind)
    (pick (eqb n 20) (Some OutOfRange)
    (pick (eqb n 21) (Some BadSize)
    (pick (eqb n 22) (Some NoBase)
    (pick (eqb n 23) (Some OutOfReach)
    (pick (eqb n 24) (Some NoRoom)
    (pick (eqb n 30) (Some SmallOutput) None)))))))))))))))))))

at-number : (r : Refusal) → refusal_at (number_of r) ≡ Some r
unfolding refusal_at
at-number BrokenCard = refl
at-number TooManyCards = refl
at-number SmallWorkArea = refl
at-number MisplacedEnd = refl
at-number BadByte = refl
at-number BadName = refl
at-number UnknownOperation = refl
at-number MisplacedStart = refl
at-number MisplacedName = refl
at-number Malformed = refl
at-number DefinedBefore = refl
at-number TooManyNames = refl
at-number Undefined = refl
at-number WrongKind = refl
at-number OutOfRange = refl
at-number BadSize = refl
at-number NoBase = refl
at-number OutOfReach = refl
at-number NoRoom = refl
at-number SmallOutput = refl

pub number_one_to_one : (a b : Refusal) → number_of a ≡ number_of b → a ≡ b
number_one_to_one a b e = let same : Some a ≡ Some b = sym (at-number a) ∙ ap refusal_at e ∙ at-number b in cc

-- .. and with them the answers that are refused or not: what a contract says of the number, it says of the answer
pub answer_one_to_one : (a b : Result (Unit {0}) Refusal) → number_in a ≡ number_in b → a ≡ b
answer_one_to_one (Ok x) (Ok y) e = refl
answer_one_to_one (Ok x) (Err r) e = absurd (omega (arith, number_above r))
answer_one_to_one (Err r) (Ok y) e = absurd (omega (arith, number_above r))
answer_one_to_one (Err r) (Err t) e = ap (λ z. Err z) (number_one_to_one r t e)
