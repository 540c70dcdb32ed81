-- R5.2 to R5.9: the term at a position. A bad one says the first position at which no term could go on.
use Rattle.std.specs.Prelude.{ℕ, zero, suc, ◌+◌, ◌*◌, List, Bool, get_or, ltb, leb, eqb, Result, Ok, Err}
use Rattle.values.specs.Tests.{pick}
use Rattle.letters.specs.declared.Class.{Class}
use Rattle.letters.specs.declared.Class.TheVariants.{Letter, Digit, Sign, Blank, Refused}
use Rattle.letters.specs.Text.{stands}
use Rattle.letters.specs.Letters.{class_of, is_accepted, code_of, digit_of}
use Rattle.terms.specs.Names.{name_at}
use Rattle.terms.specs.declared.Digits.{Digits}
use Rattle.terms.specs.declared.Quoted.{Quoted}
use Rattle.terms.specs.declared.Quoted.TheVariants.{One, Closed}
use Rattle.terms.specs.declared.Term.{Term}
use Rattle.terms.specs.declared.Term.TheVariants.{Number, Symbol, Here}

-- a digit of a base stands at a position
abbrev pub digit_at : ℕ → List ℕ → ℕ → Bool
digit_at base s at = ltb (digit_of (get_or s at 0)) base

-- the value v with the digit at a position behind it
abbrev pub with_digit : ℕ → List ℕ → ℕ → ℕ → ℕ
with_digit base s at v = v * base + digit_of (get_or s at 0)

-- at most n digits of a base from a position on, behind the value v, as long as the value is at most 65535; and the position behind them
unfoldable pub digits_from : ℕ → ℕ → List ℕ → ℕ → ℕ → Digits
digits_from zero base s at v = record { value = v; next = at }
digits_from (suc n) base s at v =
    pick (digit_at base s at)
    (pick (leb (with_digit base s at v) 65535)
    (digits_from n base s (at + 1) (with_digit base s at v))
    (record { value = v; next = at }))
    (record { value = v; next = at })

-- R5.2: a decimal term; a digit that follows its five, or would take it over 65535, is one too many
abbrev pub decimal_of : List ℕ → ℕ → Digits → Result (Term × ℕ) ℕ
decimal_of s at d =
    pick (eqb d.next at) (Err at) (pick (digit_at 10 s d.next) (Err d.next) (Ok (Number d.value, d.next)))

unfoldable pub decimal_at : List ℕ → ℕ → Result (Term × ℕ) ℕ
decimal_at s at = decimal_of s at (digits_from 5 10 s at 0)

-- the closing apostrophe at a position ends a term
unfoldable pub closed_at : List ℕ → ℕ → ℕ → Result (Term × ℕ) ℕ
closed_at s at v = pick (stands "'" s at) (Ok (Number v, at + 1)) (Err at)

-- 1 to n digits of a base from a position on, and the closing apostrophe
abbrev pub numeral_of : List ℕ → ℕ → Digits → Result (Term × ℕ) ℕ
numeral_of s at d = pick (eqb d.next at) (Err at) (closed_at s d.next d.value)

unfoldable pub numeral_at : ℕ → ℕ → List ℕ → ℕ → Result (Term × ℕ) ℕ
numeral_at n base s at = numeral_of s at (digits_from n base s at 0)

-- R5.3: a hex term, at its X
unfoldable pub hex_at : List ℕ → ℕ → Result (Term × ℕ) ℕ
hex_at s at = numeral_at 4 16 s (at + 2)

-- R5.4: a binary term, at its B
unfoldable pub binary_at : List ℕ → ℕ → Result (Term × ℕ) ℕ
binary_at s at = numeral_at 16 2 s (at + 2)

-- R5.5, R8.7: inside apostrophes: one character with its code, an apostrophe as two; or the closing apostrophe; or nothing, past the end. Each with the position behind it
unfoldable pub quoted_at : List ℕ → ℕ → Result (Quoted × ℕ) ℕ
quoted_at s at =
    pick (stands "'" s at) (pick (stands "'" s (at + 1)) (Ok (One (code_of (get_or s at 0)), (at + 2))) (Ok (Closed, at + 1)))
    (pick (is_accepted (class_of (get_or s at 0))) (Ok (One (code_of (get_or s at 0)), (at + 1))) (Err at))

-- behind the first character, of code a: the second one and the closing apostrophe, or that apostrophe alone
abbrev pub second_of : List ℕ → ℕ → Result (Quoted × ℕ) ℕ → Result (Term × ℕ) ℕ
second_of s a (Ok (One b, next)) = closed_at s next (a * 256 + b)
second_of s a (Ok (Closed, next)) = Ok (Number a, next)
second_of s a (Err at) = Err at

-- R5.9: without a character: C'' could only go on with the apostrophe that makes it one character
abbrev pub first_of : List ℕ → Result (Quoted × ℕ) ℕ → Result (Term × ℕ) ℕ
first_of s (Ok (One a, next)) = second_of s a (quoted_at s next)
first_of s (Ok (Closed, next)) = Err next
first_of s (Err at) = Err at

-- R5.5: a character term, at its C
unfoldable pub characters_at : List ℕ → ℕ → Result (Term × ℕ) ℕ
characters_at s at = first_of s (quoted_at s (at + 2))

-- R5.6: a name as a term
abbrev pub symbol_of : Result (ℕ × ℕ) ℕ → Result (Term × ℕ) ℕ
symbol_of (Ok (number, next)) = Ok (Symbol number, next)
symbol_of (Err at) = Err at

unfoldable pub symbol_at : List ℕ → ℕ → Result (Term × ℕ) ℕ
symbol_at s at = symbol_of (name_at s at)

-- R5.8: X, B or C and an apostrophe start a term of their kind; any other letter a symbol
unfoldable pub lettered_at : List ℕ → ℕ → Result (Term × ℕ) ℕ
lettered_at s at =
    pick (stands "'" s (at + 1))
    (pick (stands "X" s at) (hex_at s at)
    (pick (stands "B" s at) (binary_at s at) (pick (stands "C" s at) (characters_at s at) (symbol_at s at))))
    (symbol_at s at)

-- R5.7, R5.9: the term at a position, by the class of the character there; `*` is the counter, whatever stands around it
abbrev pub term_of : List ℕ → ℕ → Class → Result (Term × ℕ) ℕ
term_of s at Letter = lettered_at s at
term_of s at Digit = decimal_at s at
term_of s at Sign = pick (stands "*" s at) (Ok (Here, at + 1)) (Err at)
term_of s at Blank = Err at
term_of s at Refused = Err at

unfoldable pub term_at : List ℕ → ℕ → Result (Term × ℕ) ℕ
term_at s at = term_of s at (class_of (get_or s at 0))
