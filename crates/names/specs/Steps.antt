-- What the table's own functions do with its bytes.
use Rattle.std.specs.Prelude.{ℕ, suc, ◌+◌, ◌-◌, ◌*◌, ◌/◌, ◌%◌, ◌^◌, List, [], ◌∷◌, ◌++◌, take, drop, ltb}
use Rattle.std.proofs.lemmas.List.Edits.{sets}
use Rattle.values.specs.Tests.{pick}
use Rattle.values.specs.Words.{two_bytes, part}
use Rattle.values.specs.Values.{amount_of}
use Rattle.names.specs.declared.Name.{Name}
use Rattle.names.specs.Table.{kind_of, names_in}

-- how many names stand before the first whose number is not lower than k
unfoldable pub below : ℕ → List Name → ℕ
below k [] = 0
below k (x ∷ xs) = pick (ltb x.number k) (suc (below k xs)) 0

-- the bytes from `from` to `to` stored again 16 places up
unfoldable pub shifted : ℕ → ℕ → List ℕ → List ℕ
shifted from to t = take (from + 16) t ++ (part t from (to - from) ++ drop (to + 16) t)

-- a name's record
unfoldable pub name_bytes : Name → List ℕ
name_bytes x =
    1
    ∷ x.number / 2 ^ 40 % 256
    ∷ x.number / 2 ^ 32 % 256
    ∷ x.number / 2 ^ 24 % 256
    ∷ x.number / 2 ^ 16 % 256
    ∷ x.number / 256 % 256
    ∷ x.number % 256
    ∷ kind_of x.value
    ∷ (two_bytes (amount_of x.value) ++ (two_bytes x.length ++ (0 ∷ 0 ∷ 0 ∷ 0 ∷ [])))

-- every byte after a name is defined
unfoldable pub put : Name → ℕ → List ℕ → List ℕ
put x count t =
    let at = 16 * below x.number (names_in count t) in
    sets (shifted at (16 * count) t) at (name_bytes x)
