-- R5.1: values of both kinds, values that may be missing, and the sum with a displacement.
use Rattle.std.specs.Prelude.{ℕ, ◌+◌, leb, Option, Some, None}
use Rattle.values.specs.Tests.{pick}
use Rattle.values.specs.declared.Relocatable.{Relocatable}
use Rattle.values.specs.declared.Value.{Value}
use Rattle.values.specs.declared.Displacement.{Displacement}
use Rattle.values.specs.declared.Absolute.{Absolute}

-- a value without its kind
abbrev pub amount_of : Value → ℕ
amount_of (Value.Absolute a) = a.0
amount_of (Value.Relocatable a) = a.0

-- what to do with a value, and what holds where there is none
abbrev pub with_value : {X : Type 0} → Option Value → (Value → X) → X → X
with_value (Some v) f other = f v
with_value None f other = other

abbrev pub with_absolute : {X : Type 0} → Option Absolute → (ℕ → X) → X → X
with_absolute (Some a) f other = f a.0
with_absolute None f other = other

abbrev pub with_relocatable : {X : Type 0} → Option Relocatable → (ℕ → X) → X → X
with_relocatable (Some a) f other = f a.0
with_relocatable None f other = other

abbrev pub absolute_of : Value → Option Absolute
absolute_of (Value.Absolute a) = Some a
absolute_of (Value.Relocatable a) = None

abbrev pub relocatable_of : Value → Option Relocatable
relocatable_of (Value.Absolute a) = None
relocatable_of (Value.Relocatable a) = Some a

-- the value if it is absolute
abbrev pub only_absolute : Option Value → Option Absolute
only_absolute v = with_value v absolute_of None

-- the value if it is relocatable
abbrev pub only_relocatable : Option Value → Option Relocatable
only_relocatable v = with_value v relocatable_of None

-- R5.1: a relocatable value plus a displacement, where that is at most 65535; only a relocatable value is moved
unfoldable pub moved_by : Displacement → Relocatable → Option Relocatable
moved_by d v = pick (leb (v.0 + d.0) 65535) (Some (record { 0 = v.0 + d.0 })) None
