-- R1, R2.1: a source as a run of cards, and each card as its statement columns.
use Rattle.std.specs.Prelude.{ℕ, zero, suc, ◌+◌, ◌/◌, ◌%◌, List, [], ◌∷◌, Bool, length, leb, eqb}
use Rattle.values.specs.Tests.{pick, either}
use Rattle.values.specs.Words.{part}

-- R1.1: the two widths
abbrev pub is_width : ℕ → Bool
is_width width = either (eqb width 80) (eqb width 96)

-- R2.1: how many statement columns a width has
unfoldable pub columns_of : ℕ → ℕ
columns_of width = pick (eqb width 80) 71 (pick (eqb width 96) 87 0)

-- R1.2, R1.3: 1 for a bad width or part of a card, 2 for too many cards. Of so many cards, with so many bytes left over
abbrev pub whole_no : ℕ → ℕ → ℕ
whole_no rest count = pick (eqb rest 0) (pick (leb count 4000) 0 2) 1

unfoldable pub source_no : ℕ → ℕ → ℕ
source_no width size = pick (is_width width) (whole_no (size % width) (size / width)) 1

-- R2.1: n cards from a place on, each its statement columns and no others
unfoldable pub cards_from : ℕ → ℕ → List ℕ → ℕ → List (List ℕ)
cards_from zero width s at = []
cards_from (suc n) width s at = part s at (columns_of width) ∷ cards_from n width s (at + width)

-- R1.1: the cards of a source
unfoldable pub cards_of : ℕ → List ℕ → List (List ℕ)
cards_of width s = cards_from (length s / width) width s 0
