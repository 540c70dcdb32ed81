-- Characters and texts, as the ASCII bytes that stand for them on a card.
use Rattle.std.specs.Prelude.{ℕ, zero, suc, ◌+◌, List, [], ◌∷◌, Bool, false, eqb, leb, get_or}
use Prim.Native.Char.{Char, code}
use Prim.Native.String.{String, [] as none, ◌∷◌ as ◌then◌}
use Rattle.values.specs.Tests.{pick, both, either}

-- the byte of a character
abbrev pub byte : Char → ℕ
byte c = code c

-- the bytes of a text
unfoldable pub bytes : String → List ℕ
bytes none = []
bytes (c then s) = byte c ∷ bytes s

-- a byte is the character
abbrev pub is : Char → ℕ → Bool
is c b = eqb b (byte c)

-- a byte is one of the characters of a text
unfoldable pub is_one_of : String → ℕ → Bool
is_one_of none b = false
is_one_of (c then s) b = either (is c b) (is_one_of s b)

-- a byte is one of the characters from one to another
unfoldable pub is_from_to : Char → Char → ℕ → Bool
is_from_to first last b = both (leb (byte first) b) (leb b (byte last))

-- a character stands at a position
abbrev pub stands : Char → List ℕ → ℕ → Bool
stands c s at = is c (get_or s at 0)

-- the position behind the bytes that pass a test from a position on, at most n of them
unfoldable pub run_end : (ℕ → Bool) → ℕ → List ℕ → ℕ → ℕ
run_end goes zero s at = at
run_end goes (suc n) s at = pick (goes (get_or s at 0)) (run_end goes n s (at + 1)) at
