-- What pass one has seen to on every card, whatever the names and the counter were: pass two's arithmetic and writing rest on it.
use Rattle.std.specs.Prelude.{ℕ, List, [], ◌∷◌, Bool, true, leb, eqb}
use Rattle.values.specs.Tests.{both}
use Rattle.forms.specs.Size.{size_of}
use Rattle.lines.specs.declared.Line.{Line}
use Rattle.lines.specs.declared.Reading.{Reading}
use Rattle.lines.specs.declared.Reading.TheVariants.{Comment, BadName, Statement}
use Rattle.lines.specs.Lines.{reading_of}
use Rattle.passes.specs.One.{sizes_no}

-- the sizes of DC and DS are good, and the card has at most 65536 bytes
abbrev pub sound_line : Line → Bool
sound_line l = both (eqb (sizes_no l.shape) 0) (leb (size_of l.operation l.shape) 65536)

abbrev pub sound_reading : Reading → Bool
sound_reading Comment = true
sound_reading BadName = true
sound_reading (Statement l) = sound_line l

unfoldable pub sound : List (List ℕ) → Bool
sound [] = true
sound (s ∷ ss) = both (sound_reading (reading_of s)) (sound ss)
