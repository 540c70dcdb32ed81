-- R17.4 to R17.8: how the records of a book are judged before a load: 51 and 52 by the first record that fails, 52 with card 0 for the entry.
use Rattle.std.specs.Prelude.{◌+◌, ◌∷◌, ◌++◌, ◌≡◌}
use Rattle.theorems.specs.Logic.{ℕ, List, List-as-Memᴰ, Bool, true, false, ltb, Option, None, Some, Result, Ok}
use Rattle.theorems.specs.Types.{Record, Relocatable, Stored, LoadError}

-- the answer of an accepted load: the bytes stored, the entry
abbrev pub stored_answer : ℕ → Option Relocatable → Result Stored LoadError
stored_answer bytes entry = Ok (record { bytes = bytes; entry = entry })

-- no record fails a test
abbrev pub NoneFails : (Record → Bool) → List Record → Type 0
NoneFails fails rs = (r : Record) → List-as-Memᴰ r rs → fails r ≡ false

-- a record with this card fails a test, and none before it does
pub record FirstFails (fails : Record → Bool) (rs : List Record) (card : ℕ) : Type 0 where
  pub before : List Record
  pub first : Record
  pub later : List Record
  pub records : rs ≡ before ++ first ∷ later
  pub number : first.card ≡ card
  pub failing : fails first ≡ true
  pub others : NoneFails fails before

-- the entry plus a displacement is over 65535
abbrev pub entry_over : ℕ → Option Relocatable → Bool
entry_over d None = false
entry_over d (Some e) = ltb 65535 (e.0 + d)
