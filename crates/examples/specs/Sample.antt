-- R20.2: the sample deck, by its START card.
use Rattle.std.specs.Prelude.{ℕ, List, [], ◌∷◌, map, Bool, true, false}
use Prim.Native.String.{String}
use Rattle.letters.specs.Text.{bytes}
use Rattle.terms.specs.Names.{name_number}
use Rattle.passes.specs.Assembly.{Translated}
use Rattle.passes.specs.Assembly.Translated.{made, refused}
use Rattle.examples.specs.Table.{columns}

abbrev pub behind_start : List (List ℕ)
behind_start = map columns ("GO MVC OUT(2),KEY" ∷ " B GO" ∷ "KEY DC XL2'0A0B'" ∷ "OUT DS CL2" ∷ " END GO" ∷ [])

abbrev pub sample_at : String → List (List ℕ)
sample_at start = columns start ∷ behind_start

abbrev pub pay : ℕ
pay = name_number (bytes "PAY") 0 3

abbrev pub is_made : Translated → Bool
is_made (made names book) = true
is_made (refused number card) = false
