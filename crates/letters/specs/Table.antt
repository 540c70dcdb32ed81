-- The constant table of the 61 pairs, by their ASCII bytes, and where a byte's pair stands in it.
use Rattle.std.specs.Prelude.{ℕ, ◌-◌, List, [], ◌∷◌, ltb, eqb}
use Rattle.values.specs.Tests.{pick}
use Rattle.letters.specs.Letters.{blank_code, coded}
use Rattle.letters.specs.declared.Pair.{Pair}

unfoldable pub table : List Pair
table =
    coded " " blank_code ∷ coded "!" 0x5A ∷ coded "\"" 0x7F ∷ coded "#" 0x7B ∷ coded "$" 0x5B ∷ coded "%" 0x6C ∷ coded "&" 0x50
    ∷ coded "'" 0x7D ∷ coded "(" 0x4D ∷ coded ")" 0x5D ∷ coded "*" 0x5C ∷ coded "+" 0x4E ∷ coded "," 0x6B ∷ coded "-" 0x60
    ∷ coded "." 0x4B ∷ coded "/" 0x61 ∷ coded "0" 0xF0 ∷ coded "1" 0xF1 ∷ coded "2" 0xF2 ∷ coded "3" 0xF3 ∷ coded "4" 0xF4
    ∷ coded "5" 0xF5 ∷ coded "6" 0xF6 ∷ coded "7" 0xF7 ∷ coded "8" 0xF8 ∷ coded "9" 0xF9 ∷ coded ":" 0x7A ∷ coded ";" 0x5E
    ∷ coded "<" 0x4C ∷ coded "=" 0x7E ∷ coded ">" 0x6E ∷ coded "?" 0x6F ∷ coded "@" 0x7C ∷ coded "A" 0xC1 ∷ coded "B" 0xC2
    ∷ coded "C" 0xC3 ∷ coded "D" 0xC4 ∷ coded "E" 0xC5 ∷ coded "F" 0xC6 ∷ coded "G" 0xC7 ∷ coded "H" 0xC8 ∷ coded "I" 0xC9
    ∷ coded "J" 0xD1 ∷ coded "K" 0xD2 ∷ coded "L" 0xD3 ∷ coded "M" 0xD4 ∷ coded "N" 0xD5 ∷ coded "O" 0xD6 ∷ coded "P" 0xD7
    ∷ coded "Q" 0xD8 ∷ coded "R" 0xD9 ∷ coded "S" 0xE2 ∷ coded "T" 0xE3 ∷ coded "U" 0xE4 ∷ coded "V" 0xE5 ∷ coded "W" 0xE6
    ∷ coded "X" 0xE7 ∷ coded "Y" 0xE8 ∷ coded "Z" 0xE9 ∷ coded "_" 0x6D ∷ coded "|" 0x4F ∷ []

-- the bytes 32 to 90 in a row, then 95 and 124; any other byte is given the first place, whose pair is not its own
unfoldable pub place_of : ℕ → ℕ
place_of b = pick (ltb b 32) 0 (pick (ltb b 91) (b - 32) (pick (eqb b 95) 59 (pick (eqb b 124) 60 0)))
