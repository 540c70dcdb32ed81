-- R8.7 to R8.9: the text of a constant of type C, X or D.
use Rattle.std.specs.Prelude.{ℕ, zero, suc, ◌+◌, ◌-◌, ◌*◌, ◌/◌, ◌%◌, List, [], ◌∷◌, ◌++◌, get_or, replicate, eqb, Result, Ok, Err}
use Rattle.values.specs.Tests.{pick}
use Rattle.letters.specs.Letters.{digit_of, blank_code}
use Rattle.terms.specs.declared.Quoted.{Quoted}
use Rattle.terms.specs.declared.Quoted.TheVariants.{One, Closed}
use Rattle.terms.specs.Terms.{quoted_at}
use Rattle.data.specs.declared.DataType.{DataType}
use Rattle.data.specs.declared.DataType.TheVariants.{Characters, Hexadecimal, Decimal, Address}
use Rattle.data.specs.declared.Data.{Data}
use Rattle.data.specs.Sizes.{half_up}

-- the code of a character inside apostrophes, and the position behind it; a blank, and no step, where there is none
abbrev pub code_in : Result (Quoted × ℕ) ℕ → ℕ
code_in (Ok (One code, next)) = code
code_in (Ok (Closed, next)) = blank_code
code_in (Err place) = blank_code

abbrev pub next_in : Result (Quoted × ℕ) ℕ → ℕ → ℕ
next_in (Ok (One code, next)) at = next
next_in (Ok (Closed, next)) at = at
next_in (Err place) at = at

-- R2.3: the codes of n characters from a position on
unfoldable pub codes_from : ℕ → List ℕ → ℕ → List ℕ
codes_from zero s at = []
codes_from (suc n) s at = code_in (quoted_at s at) ∷ codes_from n s (next_in (quoted_at s at) at)

-- the value of the hex digit at a position
abbrev pub hex_at : List ℕ → ℕ → ℕ
hex_at s at = digit_of (get_or s at 0) % 16

abbrev pub pair_at : List ℕ → ℕ → ℕ
pair_at s at = hex_at s at * 16 + hex_at s (at + 1)

-- n bytes of two hex digits each, from a position on
unfoldable pub pairs_from : ℕ → List ℕ → ℕ → List ℕ
pairs_from zero s at = []
pairs_from (suc n) s at = pair_at s at ∷ pairs_from n s (at + 2)

-- R8.8: the bytes of so many hex digits: the first of an odd count has a byte of its own
unfoldable pub hex_bytes : ℕ → List ℕ → ℕ → List ℕ
hex_bytes count s at = pick (eqb (count % 2) 0) (pairs_from (count / 2) s at) (hex_at s at ∷ pairs_from (count / 2) s (at + 1))

-- R8.7: type C, filled with blanks behind
unfoldable pub characters_text : List ℕ → Data → List ℕ
characters_text s d = codes_from d.count s d.value ++ replicate (d.length - d.count) blank_code

-- R8.8: type X, filled with zeros before
unfoldable pub hexadecimal_text : List ℕ → Data → List ℕ
hexadecimal_text s d = replicate (d.length - half_up d.count) 0 ++ hex_bytes d.count s d.value

-- R8.9: type D, filled with F0 before
unfoldable pub decimal_text : List ℕ → Data → List ℕ
decimal_text s d = replicate (d.length - d.count) 0xF0 ++ codes_from d.count s d.value

-- the text of one copy; that of an address is no matter of columns, and zeros stand for it here
abbrev pub copy_of : DataType → List ℕ → Data → List ℕ
copy_of Characters s d = characters_text s d
copy_of Hexadecimal s d = hexadecimal_text s d
copy_of Decimal s d = decimal_text s d
copy_of Address s d = replicate d.length 0

abbrev pub copy_text : List ℕ → Data → List ℕ
copy_text s d = copy_of d.kind s d

-- a text n times
unfoldable pub repeated : ℕ → List ℕ → List ℕ
repeated zero text = []
repeated (suc n) text = text ++ repeated n text

-- R8.13: all copies
unfoldable pub constant_text : List ℕ → Data → List ℕ
constant_text s d = repeated d.copies (copy_text s d)
