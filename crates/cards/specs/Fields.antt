-- R2: a card's statement columns taken apart. Positions count from 0.
use Rattle.std.specs.Prelude.{ℕ, zero, suc, ◌+◌, ◌-◌, List, [], ◌∷◌, Bool, true, false, not, length, get_or, leb, eqb, Option, Some, None, Result, Ok, Err}
use Rattle.letters.specs.Text.{stands, run_end}
use Rattle.values.specs.Tests.{pick, both, either}
use Rattle.letters.specs.Letters.{class_of, is_blank, is_accepted}
use Rattle.terms.specs.Names.{name_at}
use Rattle.cards.specs.declared.Fields.{Fields}
use Rattle.cards.specs.declared.Card.{Card}
use Rattle.cards.specs.declared.Card.TheVariants.{Comment, BadName, Statement}

-- R2.2: every byte is an accepted one
unfoldable pub all_accepted : List ℕ → Bool
all_accepted [] = true
all_accepted (b ∷ bs) = both (is_accepted (class_of b)) (all_accepted bs)

-- R2.2: 10, a byte that is not accepted
unfoldable pub byte_no : List ℕ → ℕ
byte_no s = pick (all_accepted s) 0 10

abbrev pub is_blank_byte : ℕ → Bool
is_blank_byte b = is_blank (class_of b)

-- a blank stands at a position
abbrev pub blank_at : List ℕ → ℕ → Bool
blank_at s at = is_blank_byte (get_or s at 0)

-- R2.5: the position behind the n columns at most that are blank from a position on
abbrev pub blanks_end : ℕ → List ℕ → ℕ → ℕ
blanks_end n s at = run_end is_blank_byte n s at

-- R2.6: .. and behind those that are not blank
abbrev pub word_end : ℕ → List ℕ → ℕ → ℕ
word_end n s at = run_end (λ b. not (is_blank_byte b)) n s at

-- R2.7: a position lies inside apostrophes where an odd number of them stands before it in the operand
abbrev pub turned : Bool → List ℕ → ℕ → Bool
turned inside s at = pick (stands "'" s at) (not inside) inside

-- R2.7: the operand's end: a blank outside apostrophes, or behind the n columns that are left
unfoldable pub operand_end : ℕ → Bool → List ℕ → ℕ → ℕ
operand_end zero inside s at = at
operand_end (suc n) inside s at = pick (both (not inside) (blank_at s at)) at (operand_end n (turned inside s at) s (at + 1))

-- the next column that is not blank; the end of the word at a column; the end of the operand at a column
abbrev pub next_word : List ℕ → ℕ → ℕ
next_word s at = blanks_end (length s - at) s at

abbrev pub end_of_word : List ℕ → ℕ → ℕ
end_of_word s at = word_end (length s - at) s at

abbrev pub end_of_operand : List ℕ → ℕ → ℕ
end_of_operand s at = operand_end (length s - at) false s at

-- R2.8: a comma alone is no operand
abbrev pub lone_comma : List ℕ → ℕ → ℕ → Bool
lone_comma s from to = both (eqb to (from + 1)) (stands "," s from)

-- R2.5 to R2.8: where operation and operand lie, from a column on. An absent one ends where it starts
unfoldable pub fields_behind : Option ℕ → List ℕ → ℕ → Fields
fields_behind name s at =
    let operation = next_word s at in
    let behind = end_of_word s operation in
    let from = next_word s behind in
    let to = end_of_operand s from in
    record { name = name; operation = operation; behind = behind; operand = from; end = pick (lone_comma s from to) from to }

-- R2.6: a name ends at a blank or with the last column
abbrev pub name_ends : List ℕ → ℕ → Bool
name_ends s at = either (leb (length s) at) (blank_at s at)

-- R2.6, R3.1: 11, where what stands from column 1 to a blank is no name
abbrev pub named_card : List ℕ → Result (ℕ × ℕ) ℕ → Card
named_card s (Ok (number, next)) = pick (name_ends s next) (Statement (fields_behind (Some number) s next)) BadName
named_card s (Err place) = BadName

-- R2.4, R2.6: a card by its column 1: a comment, no name, or a name
unfoldable pub card_of : List ℕ → Card
card_of s = pick (stands "*" s 0) Comment (pick (blank_at s 0) (Statement (fields_behind None s 0)) (named_card s (name_at s 0)))
