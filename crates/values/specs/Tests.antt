-- Cases by a test, and tests joined.
use Rattle.std.specs.Prelude.{ℕ, Bool, true, false, ltb, eqb}

abbrev pub pick {ℓ} : {X : Type ℓ} → Bool → X → X → X
pick true x y = x
pick false x y = y

abbrev pub both : Bool → Bool → Bool
both true b = b
both false b = false

abbrev pub either : Bool → Bool → Bool
either true b = true
either false b = b

-- REFUSALS, where 0 is none

-- the first of two that holds
unfoldable pub or_else : ℕ → ℕ → ℕ
or_else a b = pick (eqb a 0) b a

-- the lower of two that hold
unfoldable pub lower : ℕ → ℕ → ℕ
lower a b = pick (eqb a 0) b (pick (eqb b 0) a (pick (ltb a b) a b))
