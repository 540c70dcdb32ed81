-- What the code's own parts work out of a statement: sizes, counts of fields, offsets.
use Rattle.std.specs.Prelude.{ℕ, zero, suc, ◌+◌, List, [], ◌∷◌, eqb}
use Rattle.values.specs.Tests.{pick}
use Rattle.values.specs.declared.Value.{Value}
use Rattle.values.specs.declared.Value.TheVariants.{Absolute, Relocatable}
use Rattle.places.specs.declared.Operand.{Operand}
use Rattle.places.specs.declared.Operand.TheVariants.{Direct, Indexed}

-- the bytes of a copy of an address constant
abbrev pub constant_size : ℕ → ℕ
constant_size m = pick (eqb m 1) 1 (pick (eqb m 3) 3 2)

-- n fields, where a value is relocatable
abbrev pub value_count : Value → ℕ → ℕ
value_count (Absolute a) n = 0
value_count (Relocatable a) n = n

-- a displacement byte is no field
abbrev pub operand_count : Operand → ℕ
operand_count (Direct v) = value_count v 1
operand_count (Indexed v r displacement) = 0

-- the fields of all copies of an address constant
abbrev pub constant_count : ℕ → ℕ → Value → ℕ
constant_count copies m v = pick (eqb m 1) 0 (pick (eqb m 3) 0 (value_count v copies))

-- n offsets, from one on and two apart
unfoldable pub two_apart : ℕ → ℕ → List ℕ
two_apart zero at = []
two_apart (suc n) at = at ∷ two_apart n (at + 2)
