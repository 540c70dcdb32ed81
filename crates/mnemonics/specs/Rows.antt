-- R4.1: an operation table, and the operation that a card's letters name in it.
use Rattle.std.specs.Prelude.{ℕ, zero, suc, ◌+◌, ◌-◌, List, [], ◌∷◌, get_or, ltb, leb, eqb}
use Prim.Native.String.{String, [] as none, ◌∷◌ as ◌then◌}
use Rattle.values.specs.Tests.{pick}
use Rattle.values.specs.Words.{base256}
use Rattle.letters.specs.Text.{byte}
use Rattle.operations.specs.declared.Operation.{Operation}
use Rattle.operations.specs.declared.Operation.TheVariants.{Unknown}

-- the letters of a text, n of them, with blanks behind
unfoldable pub letters_of : ℕ → String → List ℕ
letters_of zero s = []
letters_of (suc n) none = byte " " ∷ letters_of n none
letters_of (suc n) (c then s) = byte c ∷ letters_of n s

-- the first five letters
abbrev pub five : List ℕ → List ℕ
five l = get_or l 0 0 ∷ get_or l 1 0 ∷ get_or l 2 0 ∷ get_or l 3 0 ∷ get_or l 4 0 ∷ []

-- five letters as one number, base 256, so that letters are compared by one test
unfoldable pub number5 : List ℕ → ℕ
number5 l = base256 (five l)

-- a row of an operation table: a mnemonic's letters, and what it stands for
pub record Row : Type 0 where
  pub letters : List ℕ
  pub operation : Operation

abbrev pub row : String → Operation → Row
row text o = record { letters = letters_of 5 text; operation = o }

-- what a table has for letters, as a number; Unknown where it has none
unfoldable pub operation_in : List Row → ℕ → Operation
operation_in [] key = Unknown
operation_in (r ∷ rs) key = pick (eqb (number5 r.letters) key) r.operation (operation_in rs key)

-- the letter at place k of the word between two positions; blanks stand behind the word
unfoldable pub word_letter : List ℕ → ℕ → ℕ → ℕ → ℕ
word_letter s from to k = pick (ltb (from + k) to) (get_or s (from + k) 0) (byte " ")

unfoldable pub word_number : List ℕ → ℕ → ℕ → ℕ
word_number s from to =
    number5 (word_letter s from to 0 ∷ word_letter s from to 1 ∷ word_letter s from to 2 ∷ word_letter s from to 3 ∷ word_letter s from to 4 ∷ [])

-- R4.1: the operation of the word between two positions of a card. No mnemonic has more than five letters
unfoldable pub operation_at : List Row → List ℕ → ℕ → ℕ → Operation
operation_at rows s from to = pick (leb (to - from) 5) (operation_in rows (word_number s from to)) Unknown
