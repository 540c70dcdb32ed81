-- R3.1: a name at a position, and the number that stands for it.
use Rattle.std.specs.Prelude.{ℕ, ◌+◌, List, [], ◌∷◌, Bool, get_or, ltb, Result, Ok, Err}
use Rattle.values.specs.Tests.{pick}
use Rattle.values.specs.Words.{base256}
use Rattle.letters.specs.Text.{run_end}
use Rattle.letters.specs.Letters.{class_of, starts_name, goes_on_name, code_of, blank_code}

-- R3.1: a name may start at a position
abbrev pub starts_at : List ℕ → ℕ → Bool
starts_at s at = starts_name (class_of (get_or s at 0))

-- R3.1: what may follow in a name
abbrev pub goes_on_at : List ℕ → ℕ → Bool
goes_on_at s at = goes_on_name (class_of (get_or s at 0))

-- the position behind the characters of a name that stand from a position on, at most n of them
abbrev pub name_end : ℕ → List ℕ → ℕ → ℕ
name_end n s at = run_end (λ b. goes_on_name (class_of b)) n s at

-- the EBCDIC code at place k of the name between two positions; blanks stand behind the name
unfoldable pub name_byte : List ℕ → ℕ → ℕ → ℕ → ℕ
name_byte s at end k = pick (ltb (at + k) end) (code_of (get_or s (at + k) 0)) blank_code

abbrev pub name_codes : List ℕ → ℕ → ℕ → List ℕ
name_codes s at end =
    name_byte s at end 0 ∷ name_byte s at end 1 ∷ name_byte s at end 2 ∷ name_byte s at end 3 ∷ name_byte s at end 4 ∷ name_byte s at end 5 ∷ []

-- a name's number: its six codes, the first one highest, so that the order of numbers is the EBCDIC order of names
unfoldable pub name_number : List ℕ → ℕ → ℕ → ℕ
name_number s at end = base256 (name_codes s at end)

-- R3.1: 1 to 6 characters: the number of the name at a position and the position behind it, or the first position at which no name could go on
abbrev pub name_up_to : List ℕ → ℕ → ℕ → Result (ℕ × ℕ) ℕ
name_up_to s at end = pick (goes_on_at s end) (Err end) (Ok (name_number s at end, end))

unfoldable pub name_at : List ℕ → ℕ → Result (ℕ × ℕ) ℕ
name_at s at = pick (starts_at s at) (name_up_to s at (name_end 6 s at)) (Err at)
