-- R2.2, R2.3: the accepted characters, their classes and their EBCDIC codes.
use Rattle.std.specs.Prelude.{ℕ, ◌+◌, ◌-◌, List, [], ◌∷◌, Bool, true, false, eqb}
use Prim.Native.Char.{Char}
use Prim.Native.String.{String, [] as none, ◌∷◌ as ◌then◌}
use Rattle.values.specs.Tests.{pick}
use Rattle.letters.specs.Text.{byte, is, is_one_of, is_from_to}
use Rattle.letters.specs.declared.Class.{Class}
use Rattle.letters.specs.declared.Class.TheVariants.{Letter, Digit, Sign, Blank, Refused}
use Rattle.letters.specs.declared.Pair.{Pair}

-- R2.2: the class of a byte; $ # @ stand with the letters, since a name may have them wherever it has a letter
unfoldable pub class_of : ℕ → Class
class_of b =
    pick (is_from_to "A" "Z" b) Letter
    (pick (is_one_of "$#@" b) Letter
    (pick (is_from_to "0" "9" b) Digit
    (pick (is " " b) Blank (pick (is_one_of ".<(+|&!*);-/,%_>?:'=\"" b) Sign Refused))))

-- R3.1: what a name may start with
abbrev pub starts_name : Class → Bool
starts_name Letter = true
starts_name Digit = false
starts_name Sign = false
starts_name Blank = false
starts_name Refused = false

-- R3.1: what may follow in a name
abbrev pub goes_on_name : Class → Bool
goes_on_name Letter = true
goes_on_name Digit = true
goes_on_name Sign = false
goes_on_name Blank = false
goes_on_name Refused = false

abbrev pub is_blank : Class → Bool
is_blank Letter = false
is_blank Digit = false
is_blank Sign = false
is_blank Blank = true
is_blank Refused = false

-- R2.2: an accepted byte
abbrev pub is_accepted : Class → Bool
is_accepted Letter = true
is_accepted Digit = true
is_accepted Sign = true
is_accepted Blank = true
is_accepted Refused = false

-- a character and its code
abbrev pub coded : Char → ℕ → Pair
coded c n = record { 0 = byte c; 1 = n }

-- the characters of a text and their codes, which follow each other from the first one's on
unfoldable pub coded_from : String → ℕ → List Pair → List Pair
coded_from none n others = others
coded_from (c then s) n others = coded c n ∷ coded_from s (n + 1) others

-- the code of a blank
abbrev pub blank_code : ℕ
blank_code = 0x40

-- R2.3: the characters and their EBCDIC codes (code page 037), in the order of the codes
unfoldable pub listed : List Pair
listed =
    coded " " blank_code ∷ coded "." 0x4B ∷ coded "<" 0x4C ∷ coded "(" 0x4D ∷ coded "+" 0x4E ∷ coded "|" 0x4F ∷ coded "&" 0x50
    ∷ coded "!" 0x5A ∷ coded "$" 0x5B ∷ coded "*" 0x5C ∷ coded ")" 0x5D ∷ coded ";" 0x5E ∷ coded "-" 0x60 ∷ coded "/" 0x61
    ∷ coded "," 0x6B ∷ coded "%" 0x6C ∷ coded "_" 0x6D ∷ coded ">" 0x6E ∷ coded "?" 0x6F ∷ coded ":" 0x7A ∷ coded "#" 0x7B
    ∷ coded "@" 0x7C ∷ coded "'" 0x7D ∷ coded "=" 0x7E ∷ coded "\"" 0x7F
    ∷ coded_from "ABCDEFGHI" 0xC1 (coded_from "JKLMNOPQR" 0xD1 (coded_from "STUVWXYZ" 0xE2 (coded_from "0123456789" 0xF0 [])))

-- the code that a list of pairs has for a byte; 0 where it has none
unfoldable pub code_in : List Pair → ℕ → ℕ
code_in [] b = 0
code_in (p ∷ ps) b = pick (eqb p.0 b) p.1 (code_in ps b)

-- R2.3: a byte's EBCDIC code; 0 where it is not accepted
unfoldable pub code_of : ℕ → ℕ
code_of b = code_in listed b

-- the value of a hexadecimal digit; 16 for a byte that is none
unfoldable pub digit_of : ℕ → ℕ
digit_of b = pick (is_from_to "0" "9" b) (b - byte "0") (pick (is_from_to "A" "F" b) (b - byte "A" + 10) 16)
