-- R3.3, R3.4, R3.6: what each name stands for, a name more, and refusals 16 and 17. A name is a number, its six EBCDIC bytes in base 256.
use Rattle.std.specs.Prelude.{ℕ, List, [], ◌∷◌, Bool, true, length, ltb, eqb, Option, Some, None}
use Rattle.values.specs.Tests.{pick, both}
use Rattle.values.specs.declared.Value.{Value}
use Rattle.names.specs.declared.Name.{Name}
use Rattle.names.specs.declared.Meaning.{Meaning}

abbrev pub meaning : Value → ℕ → Meaning
meaning v l = record { value = v; length = l }

-- what the names say of a number: the value and the length of the name, or that it is not defined
unfoldable pub find : List Name → ℕ → Option Meaning
find [] k = None
find (x ∷ xs) k = pick (eqb x.number k) (Some (meaning x.value x.length)) (find xs k)

-- a name more, before the first whose number is not lower
unfoldable pub defined : Name → List Name → List Name
defined x [] = x ∷ []
defined x (y ∷ ys) = pick (ltb y.number x.number) (y ∷ defined x ys) (x ∷ y ∷ ys)

-- every name's number is above k, and above that of the name before it
unfoldable pub above : ℕ → List Name → Bool
above k [] = true
above k (x ∷ xs) = both (ltb k x.number) (above x.number xs)

-- the names stand in ascending order
unfoldable pub ascending : List Name → Bool
ascending [] = true
ascending (x ∷ xs) = above x.number xs

-- R3.3, R3.4: 16, defined before; 17, over the limit of names
abbrev pub refusal_of : ℕ → ℕ → Option Meaning → ℕ
refusal_of limit count (Some m) = 16
refusal_of limit count None = pick (ltb count limit) 0 17

unfoldable pub name_refusal : ℕ → List Name → ℕ → ℕ
name_refusal limit names k = refusal_of limit (length names) (find names k)
