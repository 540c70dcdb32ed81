-- The code's table of the operations of a Model 10: the rows in the order of their letters' ASCII bytes.
use Rattle.std.specs.Prelude.{ℕ, zero, suc, ◌+◌, ◌<◌, List, [], ◌∷◌, map, length, get_or, ltb, eqb}
use Rattle.values.specs.Tests.{pick}
use Rattle.mnemonics.specs.Rows.{number5, Row}
use Rattle.mnemonics.specs.Model10.{model10}
use Rattle.operations.specs.declared.Operation.{Operation}

-- the number of the letters in a row
abbrev pub key_at : List (List ℕ) → ℕ → ℕ
key_at rows i = number5 (get_or rows i [])

-- the first of n rows, from a row on, that has a number; the row behind them where none has it
unfoldable pub row_from : ℕ → List (List ℕ) → ℕ → ℕ → ℕ
row_from zero rows key i = i
row_from (suc n) rows key i = pick (eqb (key_at rows i) key) i (row_from n rows key (i + 1))

abbrev pub row_in : List (List ℕ) → ℕ → ℕ
row_in rows key = row_from (length rows) rows key 0

-- rows whose numbers rise, so that none is there twice
abbrev pub Rising : List (List ℕ) → Type 0
Rising rows = (i j : ℕ) → i < j → j < length rows → key_at rows i < key_at rows j

-- a row more, before the first with higher letters
unfoldable pub inserted : Row → List Row → List Row
inserted r [] = r ∷ []
inserted r (x ∷ xs) = pick (ltb (number5 r.letters) (number5 x.letters)) (r ∷ x ∷ xs) (x ∷ inserted r xs)

unfoldable pub sorted : List Row → List Row
sorted [] = []
sorted (r ∷ rs) = inserted r (sorted rs)

-- the letters of each row, and what it stands for
unfoldable pub sorted_letters : List (List ℕ)
sorted_letters = map (λ r. r.letters) (sorted model10)

unfoldable pub sorted_operations : List Operation
sorted_operations = map (λ r. r.operation) (sorted model10)
