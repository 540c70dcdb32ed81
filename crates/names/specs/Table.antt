-- The names as the bytes of a table hold them: records of 16 bytes, one behind the other.
use Rattle.std.specs.Prelude.{ℕ, zero, suc, ◌+◌, List, [], ◌∷◌, ◌++◌, get_or, drop, replicate, eqb}
use Rattle.values.specs.Tests.{pick}
use Rattle.values.specs.Words.{word, base256}
use Rattle.values.specs.declared.Value.{Value}
use Rattle.values.specs.declared.Value.TheVariants.{Absolute, Relocatable}
use Rattle.names.specs.declared.Name.{Name}
use Rattle.names.specs.declared.Meaning.{Meaning}
use Rattle.names.specs.Names.{meaning}

-- kind 0 is absolute, 1 relocatable
abbrev pub value_of : ℕ → ℕ → Value
value_of kind amount = pick (eqb kind 0) (Absolute (record { 0 = amount })) (Relocatable (record { 0 = amount }))

abbrev pub kind_of : Value → ℕ
kind_of (Absolute a) = 0
kind_of (Relocatable a) = 1

-- the record at a place: bytes 1 to 6 are the name, 7 the kind, 8 and 9 the value, 10 and 11 the length
unfoldable pub number_at : List ℕ → ℕ → ℕ
number_at t at =
    base256
    (get_or t (at + 1) 0 ∷ get_or t (at + 2) 0 ∷ get_or t (at + 3) 0 ∷ get_or t (at + 4) 0 ∷ get_or t (at + 5) 0 ∷ get_or t (at + 6) 0 ∷ [])

abbrev pub name_at : List ℕ → ℕ → Name
name_at t at = record { number = number_at t at; value = value_of (get_or t (at + 7) 0) (word t (at + 8)); length = word t (at + 10) }

abbrev pub meaning_at : List ℕ → ℕ → Meaning
meaning_at t at = meaning (name_at t at).value (name_at t at).length

-- n records from a place on
unfoldable pub names_from : ℕ → List ℕ → ℕ → List Name
names_from zero t at = []
names_from (suc n) t at = name_at t at ∷ names_from n t (at + 16)

-- the names that the first n records of a table hold
unfoldable pub names_in : ℕ → List ℕ → List Name
names_in n t = names_from n t 0

-- the first n bytes zero, the others as they were
unfoldable pub zeroed : ℕ → List ℕ → List ℕ
zeroed n t = replicate n 0 ++ drop n t
