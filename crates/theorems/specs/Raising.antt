-- Names and counter raised by d, and what of an expression is known before its value.
use Rattle.std.specs.Prelude.{◌∷◌, ◌++◌}
use Rattle.theorems.specs.Logic.{ℕ, List, [], Option, Result, Ok, Err}
use Rattle.theorems.specs.Types.{Meaning, Kind, Addend, Read, Value, Fault}
use Rattle.values.specs.Tests.{pick}
use Rattle.names.specs.Raised.{raised_meaning}
use Rattle.expressions.specs.Form.{Placed}
use Rattle.expressions.specs.Form.Read.{up_to, fails}
use Rattle.expressions.specs.Value.{placed_factor, kind_of}
use Rattle.expressions.specs.declared.Fault.TheVariants.{Malformed, Undefined, WrongKind, OutOfRange}

-- what the names say once every relocatable one is d higher
abbrev pub raised_look : ℕ → (ℕ → Option Meaning) → ℕ → Option Meaning
raised_look d look k = raised_meaning d (look k)

-- what an expression is, whatever its value: not of the form, with a name that is not defined, of no kind, or of a kind
pub data Sort : Type 0 where
  unformed : Sort
  undefined : Sort
  no_kind : Sort
  of_kind : Kind → Sort

abbrev pub sort_of : Result Value Fault → Sort
sort_of (Ok v) = of_kind (kind_of v)
sort_of (Err Malformed) = unformed
sort_of (Err Undefined) = undefined
sort_of (Err WrongKind) = no_kind
sort_of (Err (OutOfRange k)) = of_kind k

-- the positions of the names that are not defined, from left to right
unfoldable pub undefined_places : (ℕ → Option Meaning) → ℕ → List Placed → List ℕ
undefined_places look here [] = []
undefined_places look here (x ∷ xs) =
    pick (placed_factor look here x).undefined (x.at ∷ undefined_places look here xs) (undefined_places look here xs)

unfoldable pub undefined_terms : (ℕ → Option Meaning) → ℕ → List (Addend Placed) → List ℕ
undefined_terms look here [] = []
undefined_terms look here (a ∷ rest) =
    undefined_places look here (a.product.first ∷ a.product.others) ++ undefined_terms look here rest

abbrev pub undefined_at : (ℕ → Option Meaning) → ℕ → Read (List (Addend Placed)) → List ℕ
undefined_at look here (up_to xs q) = undefined_terms look here xs
undefined_at look here (fails q) = []
