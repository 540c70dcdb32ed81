-- The formula gives the operation bytes of the manual's charts at every mode, and no two instructions share one.
use Prim.Native.Nat.{ℕ}
use mathlib.Core.List.{List, [], ◌∷◌, ◌++◌, map}
use mathlib.Core.Path.{◌≡◌, refl}
use mathlib.Core.Bool.{Bool, true, false, not}
use lib.Dec.{eqb}
use Rattle.values.specs.Tests.{both, either}
use Rattle.operations.specs.declared.Operation.{Operation}
use Rattle.operations.specs.declared.Operation.TheVariants.{Branch, HalfBytes, Jump}
use Rattle.mnemonics.specs.Rows.{Row, letters_of, number5, operation_in}
use Rattle.operations.specs.Codes.{two_address, one_address, branch}
use Rattle.mnemonics.specs.Charts.{Chart, charts, bytes_of}
use Rattle.mnemonics.specs.Model10.{own_operations, two_addresses, one_addresses, branches, jumps, extended_moves, extended_branches, extended_jumps, model10}

-- the bytes of a chart, as the manual has them and as the formula gives them
abbrev pub charted : Chart → List ℕ
charted c = c.bytes

abbrev pub computed : Chart → List ℕ
computed c = bytes_of (operation_in model10 (number5 c.letters))

pub charts_agree : map computed charts ≡ map charted charts
unfolding charts operation_in model10 own_operations two_addresses one_addresses branches jumps extended_moves extended_branches extended_jumps letters_of number5 two_address one_address branch
charts_agree = refl

-- no byte of a list of lists is there twice
unfoldable pub is_in : ℕ → List ℕ → Bool
is_in b [] = false
is_in b (x ∷ xs) = either (eqb b x) (is_in b xs)

unfoldable pub distinct : List ℕ → Bool
distinct [] = true
distinct (x ∷ xs) = both (not (is_in x xs)) (distinct xs)

unfoldable pub joined : List (List ℕ) → List ℕ
joined [] = []
joined (l ∷ ls) = l ++ joined ls

pub bytes-distinct : distinct (joined (map charted charts)) ≡ true
unfolding distinct is_in joined charts
bytes-distinct = refl

-- an extended mnemonic has the operation bytes of the instruction that it stands for
abbrev pub row_bytes : Row → List ℕ
row_bytes r = bytes_of r.operation

abbrev pub bytes_as : Operation → Row → List ℕ
bytes_as o r = bytes_of o

pub extended_branches_lem : map row_bytes extended_branches ≡ map (bytes_as (Branch 0x0)) extended_branches
unfolding extended_branches branch
extended_branches_lem = refl

pub extended_moves_lem : map row_bytes extended_moves ≡ map (bytes_as HalfBytes) extended_moves
unfolding extended_moves two_address
extended_moves_lem = refl

pub extended_jumps_lem : map row_bytes extended_jumps ≡ map (bytes_as Jump) extended_jumps
unfolding extended_jumps
extended_jumps_lem = refl

-- every instruction that isn't an extended one has its chart
unfoldable pub has_chart : List Chart → Row → Bool
has_chart [] r = false
has_chart (c ∷ cs) r = either (eqb (number5 c.letters) (number5 r.letters)) (has_chart cs r)

unfoldable pub all_charted : List Row → Bool
all_charted [] = true
all_charted (r ∷ rs) = both (has_chart charts r) (all_charted rs)

pub each_has_a_chart : all_charted (two_addresses ++ (one_addresses ++ (branches ++ jumps))) ≡ true
unfolding all_charted has_chart charts two_addresses one_addresses branches jumps letters_of number5
each_has_a_chart = refl
