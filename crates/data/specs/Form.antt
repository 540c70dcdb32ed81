-- R8.1 to R8.3, R8.6: the form of DC and DS operands, from the columns alone. An operand that has not this form,
-- and with it refusal 15, has the first position at which none could go on.
use Rattle.std.specs.Prelude.{ℕ, zero, suc, ◌+◌, ◌-◌, List, length, get_or, eqb, Option, Some, None, Result, Ok, Err}
use Rattle.values.specs.Tests.{pick}
use Rattle.letters.specs.Text.{byte, is, stands}
use Rattle.terms.specs.declared.Quoted.{Quoted}
use Rattle.terms.specs.declared.Quoted.TheVariants.{One, Closed}
use Rattle.terms.specs.Terms.{quoted_at}
use Rattle.expressions.specs.Form.{form_of, expression_at}
use Rattle.data.specs.declared.DataCard.{DataCard}
use Rattle.data.specs.declared.DataCard.TheVariants.{Constant, Reserve}
use Rattle.data.specs.declared.DataType.{DataType}
use Rattle.data.specs.declared.DataType.TheVariants.{Characters, Hexadecimal, Decimal, Address}
use Rattle.data.specs.declared.Data.{Data}
use Rattle.data.specs.declared.head.Head.{Head}
use Rattle.data.specs.Runs.{digits_end, told, number_in}
use Rattle.data.specs.Sizes.{needed}

-- COPIES, TYPE AND LENGTH

-- R8.1: the type: C, X, D or A
unfoldable pub type_of : ℕ → Option DataType
type_of b =
    pick (is "C" b) (Some Characters)
    (pick (is "X" b) (Some Hexadecimal) (pick (is "D" b) (Some Decimal) (pick (is "A" b) (Some Address) None)))

-- R8.4: the copies, 1 where absent: the digits before the type, which stands at a position
unfoldable pub copies_before : List ℕ → ℕ → ℕ
copies_before s at = pick (eqb at 0) 1 (number_in s 0 at)

-- R8.3: an L and the digits behind it, up to a position
abbrev pub length_up_to : List ℕ → DataType → ℕ → ℕ → ℕ → Result Head ℕ
length_up_to s kind copies from end =
    pick (eqb end from) (Err from)
    (Ok (record { kind = kind; copies = copies; length = Some (number_in s from end); next = end }))

-- R8.3: behind the type an L and one or more digits, or nothing
unfoldable pub length_at : List ℕ → DataType → ℕ → ℕ → Result Head ℕ
length_at s kind copies at =
    pick (stands "L" s at) (length_up_to s kind copies (at + 1) (digits_end 10 s (at + 1)))
    (Ok (record { kind = kind; copies = copies; length = None; next = at }))

-- n, T and Lm, the type standing at a position
abbrev pub head_of : List ℕ → ℕ → Option DataType → Result Head ℕ
head_of s at (Some kind) = length_at s kind (copies_before s at) (at + 1)
head_of s at None = Err at

abbrev pub head_from : List ℕ → ℕ → Result Head ℕ
head_from s at = head_of s at (type_of (get_or s at 0))

unfoldable pub head_at : List ℕ → Result Head ℕ
head_at s = head_from s (digits_end 10 s 0)

-- VALUES

-- R8.7, R8.10: what stands inside the apostrophes, behind k characters: one more, or the closing apostrophe. A value has a character:
-- C'' could only go on with the apostrophe that makes it one
abbrev pub characters_on : ℕ → Result (Quoted × ℕ) ℕ → (ℕ → Result (ℕ × ℕ) ℕ) → Result (ℕ × ℕ) ℕ
characters_on k (Ok (One code, next)) on = on next
characters_on k (Ok (Closed, next)) on = pick (eqb k 0) (Err next) (Ok (told k, next))
characters_on k (Err at) on = Err at

-- R8.7: characters, an apostrophe as two, up to the closing apostrophe; n bounds how many
unfoldable pub characters_from : ℕ → List ℕ → ℕ → ℕ → Result (ℕ × ℕ) ℕ
characters_from zero s at k = Err at
characters_from (suc n) s at k = characters_on k (quoted_at s at) (λ next. characters_from n s next (k + 1))

-- no more than there are columns
unfoldable pub characters_at : List ℕ → ℕ → Result (ℕ × ℕ) ℕ
characters_at s at = characters_from (suc (length s)) s at 0

-- R8.8 to R8.10: one digit or more, and the closing apostrophe
abbrev pub run_up_to : List ℕ → ℕ → ℕ → Result (ℕ × ℕ) ℕ
run_up_to s at end =
    pick (eqb end at) (Err at) (pick (stands "'" s end) (Ok ((told (end - at)), (end + 1))) (Err end))

unfoldable pub run_at : ℕ → List ℕ → ℕ → Result (ℕ × ℕ) ℕ
run_at base s at = run_up_to s at (digits_end base s at)

-- R8.1: of type A the closing parenthesis behind the expression
abbrev pub address_of : List ℕ → Result ℕ ℕ → Result (ℕ × ℕ) ℕ
address_of s (Ok q) = pick (stands ")" s q) (Ok (0, q + 1)) (Err q)
address_of s (Err q) = Err q

unfoldable pub address_at : List ℕ → ℕ → Result (ℕ × ℕ) ℕ
address_at s at = address_of s (form_of (expression_at s at))

-- R8.1: what opens a value
abbrev pub opening_of : DataType → ℕ
opening_of Characters = byte "'"
opening_of Hexadecimal = byte "'"
opening_of Decimal = byte "'"
opening_of Address = byte "("

-- a value behind what opens it
abbrev pub opened_at : List ℕ → DataType → ℕ → Result (ℕ × ℕ) ℕ
opened_at s Characters at = characters_at s at
opened_at s Hexadecimal at = run_at 16 s at
opened_at s Decimal at = run_at 10 s at
opened_at s Address at = address_at s at

unfoldable pub value_at : List ℕ → DataType → ℕ → Result (ℕ × ℕ) ℕ
value_at s kind at = pick (eqb (get_or s at 0) (opening_of kind)) (opened_at s kind (at + 1)) (Err at)

-- OPERANDS

abbrev pub written_or : Option ℕ → ℕ → ℕ
written_or (Some m) other = m
written_or None other = other

-- R8.6: the length of DC where it is absent
abbrev pub constant_length : DataType → ℕ → ℕ
constant_length Characters count = needed Characters count
constant_length Hexadecimal count = needed Hexadecimal count
constant_length Decimal count = needed Decimal count
constant_length Address count = 2

-- R8.6: the length of DS where it is absent
abbrev pub reserve_length : DataType → ℕ
reserve_length Characters = 1
reserve_length Hexadecimal = 1
reserve_length Decimal = 1
reserve_length Address = 2

abbrev pub constant_data : Head → ℕ → Data
constant_data h count = record {
  card = Constant;
  kind = h.kind;
  copies = h.copies;
  length = written_or h.length (constant_length h.kind count);
  count = count;
  value = h.next + 1;
}

abbrev pub reserve_data : Head → Data
reserve_data h = record {
  card = Reserve;
  kind = h.kind;
  copies = h.copies;
  length = written_or h.length (reserve_length h.kind);
  count = 0;
  value = h.next;
}

-- R8.3: nothing stands behind a value
abbrev pub constant_up_to : List ℕ → Head → Result (ℕ × ℕ) ℕ → Result Data ℕ
constant_up_to s h (Ok (count, end)) = pick (eqb end (length s)) (Ok (constant_data h count)) (Err end)
constant_up_to s h (Err at) = Err at

unfoldable pub constant_behind : List ℕ → Head → Result Data ℕ
constant_behind s h = constant_up_to s h (value_at s h.kind h.next)

abbrev pub constant_of : List ℕ → Result Head ℕ → Result Data ℕ
constant_of s (Ok h) = constant_behind s h
constant_of s (Err at) = Err at

-- R8.1: the operand of DC
unfoldable pub constant_form : List ℕ → Result Data ℕ
constant_form s = constant_of s (head_at s)

-- R8.2: nothing stands behind copies, type and length
abbrev pub reserve_of : List ℕ → Result Head ℕ → Result Data ℕ
reserve_of s (Ok h) = pick (eqb h.next (length s)) (Ok (reserve_data h)) (Err h.next)
reserve_of s (Err at) = Err at

-- R8.2: the operand of DS
unfoldable pub reserve_form : List ℕ → Result Data ℕ
reserve_form s = reserve_of s (head_at s)

-- the operand of a data card
abbrev pub data_form : DataCard → List ℕ → Result Data ℕ
data_form Constant s = constant_form s
data_form Reserve s = reserve_form s
