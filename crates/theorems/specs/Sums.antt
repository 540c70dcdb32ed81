-- R21.3: sums over cards and over records, which the counts answered must be.
use Rattle.std.specs.Prelude.{◌+◌, ◌∷◌}
use Rattle.theorems.specs.Logic.{ℕ, List, [], length}
use Rattle.theorems.specs.Types.{Reading, Record}
use Rattle.book.specs.Writing.{record_bytes}
use Rattle.lines.specs.declared.Reading.TheVariants.{Comment, BadName, Statement}
use Rattle.lines.specs.Lines.{reading_of}
use Rattle.passes.specs.One.{if_named}

unfoldable pub total : {A : Type 0} → (A → ℕ) → List A → ℕ
total f [] = 0
total f (x ∷ xs) = f x + total f xs

-- the names that a card defines: 1 where its line has one
abbrev pub reading_defines : Reading → ℕ
reading_defines Comment = 0
reading_defines BadName = 0
reading_defines (Statement l) = if_named l.name (λ name. 1)

unfoldable pub defines : List ℕ → ℕ
defines s = reading_defines (reading_of s)

-- the bytes of a record's text, and those of the whole record in the book
abbrev pub text_length : Record → ℕ
text_length r = length r.text

abbrev pub record_length : Record → ℕ
record_length r = length (record_bytes r)
