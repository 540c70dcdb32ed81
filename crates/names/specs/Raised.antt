-- What it is to be raised by d: a relocatable value is d higher, all else stays.
use Rattle.std.specs.Prelude.{ℕ, ◌+◌, Option, Some, None}
use Rattle.values.specs.declared.Value.{Value}
use Rattle.values.specs.declared.Value.TheVariants.{Absolute, Relocatable}
use Rattle.names.specs.declared.Name.{Name}
use Rattle.names.specs.declared.Meaning.{Meaning}
use Rattle.names.specs.Names.{meaning}

abbrev pub raised_value : ℕ → Value → Value
raised_value d (Absolute a) = Absolute a
raised_value d (Relocatable a) = Relocatable (record { 0 = a.0 + d })

abbrev pub raised_meaning : ℕ → Option Meaning → Option Meaning
raised_meaning d (Some m) = Some (meaning (raised_value d m.value) m.length)
raised_meaning d None = None

abbrev pub raised_name : ℕ → Name → Name
raised_name d x = record { number = x.number; value = raised_value d x.value; length = x.length }
