-- R7.4 to R7.6, R9.1 to R9.4, R12.1: how the operand of each operation is written, from its columns alone. One that fails, refusal 15, says the first position at which no operand of its form could go on.
use Rattle.std.specs.Prelude.{ℕ, ◌+◌, List, Bool, length, ltb, eqb, Option, Some, None, Result, Ok, Err}
use Rattle.letters.specs.Text.{stands}
use Rattle.values.specs.Tests.{pick}
use Rattle.terms.specs.declared.Term.{Term}
use Rattle.terms.specs.declared.Term.TheVariants.{Number, Symbol, Here}
use Rattle.terms.specs.Terms.{decimal_at, hex_at}
use Rattle.expressions.specs.Form.{form_of, expression_at}
use Rattle.operations.specs.declared.Operation.{Operation}
use Rattle.operations.specs.declared.traits.Pattern.{Pattern}
use Rattle.operations.specs.Traits.{pattern_of}
use Rattle.data.specs.Form.{constant_form, reserve_form}
use Rattle.data.specs.declared.Data.{Data as DataSaid}
use Rattle.addresses.specs.declared.Address.{Address}
use Rattle.forms.specs.declared.Shape.{Shape}
use Rattle.forms.specs.declared.Shape.TheVariants.{Nothing, StartAt, Expression, Pair, Target, TwoAddresses, AddressAndCode, LoneAddress, Data}
use Rattle.operations.specs.declared.traits.Lengths.{Lengths}
use Rattle.operations.specs.declared.traits.Lengths.TheVariants.{OnEach, OnOne, OnExactlyOne, OnNone}
use Rattle.addresses.specs.declared.Allowed.{Allowed}
use Rattle.addresses.specs.declared.Allowed.TheVariants.{MayHaveLength, HasLength, NoLength, OnlyRegister}
use Rattle.addresses.specs.Address.{address_at}

-- R9.4: the operand ends here; anything that stands here is no part of it
unfoldable pub ended : List ℕ → ℕ → Shape → Result Shape ℕ
ended o q x = pick (ltb q (length o)) (Err q) (Ok x)

-- reading on behind an expression, and behind an address
abbrev pub behind_form : Result ℕ ℕ → (ℕ → Result Shape ℕ) → Result Shape ℕ
behind_form (Ok q) on = on q
behind_form (Err q) on = Err q

abbrev pub behind_addressed : Result (Address × ℕ) ℕ → (Address → ℕ → Result Shape ℕ) → Result Shape ℕ
behind_addressed (Ok (a, q)) on = on a q
behind_addressed (Err q) on = Err q

-- a comma, and what stands behind it
abbrev pub behind_comma : List ℕ → ℕ → (ℕ → Result Shape ℕ) → Result Shape ℕ
behind_comma o q on = pick (stands "," o q) (on (q + 1)) (Err q)

-- the expression at p is the last of the operand
unfoldable pub last_at : List ℕ → ℕ → Shape → Result Shape ℕ
last_at o p x = behind_form (form_of (expression_at o p)) (λ q. ended o q x)

abbrev pub is_absent : List ℕ → Bool
is_absent o = eqb (length o) 0

-- R7.4: START's operand, one decimal or hex term, or none
unfoldable pub start_term : List ℕ → Result (Term × ℕ) ℕ
start_term o = pick (stands "X" o 0) (pick (stands "'" o 1) (hex_at o 0) (Err 1)) (decimal_at o 0)

abbrev pub start_of : List ℕ → Result (Term × ℕ) ℕ → Result Shape ℕ
start_of o (Ok (Number v, q)) = ended o q (StartAt v)
start_of o (Ok (Symbol k, q)) = Err 0
start_of o (Ok (Here, q)) = Err 0
start_of o (Err q) = Err q

unfoldable pub start_shape : List ℕ → Result Shape ℕ
start_shape o = pick (is_absent o) (Ok (StartAt 0)) (start_of o (start_term o))

-- R12.1, R12.2: END's operand, the entry, or none
unfoldable pub end_shape : List ℕ → Result Shape ℕ
end_shape o = pick (is_absent o) (Ok Nothing) (last_at o 0 Expression)

-- R9.1: USING's E,R and JC's E,Q
unfoldable pub pair_shape : List ℕ → Result Shape ℕ
pair_shape o = behind_form (form_of (expression_at o 0)) (λ q. behind_comma o q (λ p. last_at o p (Pair p)))

-- R9.2: what the second address may have behind the first one's length
abbrev pub unless_there : Option ℕ → Allowed → Allowed
unless_there None w = w
unless_there (Some p) w = NoLength

abbrev pub first_allowed : Lengths → Allowed
first_allowed OnEach = MayHaveLength
first_allowed OnOne = MayHaveLength
first_allowed OnExactlyOne = MayHaveLength
first_allowed OnNone = NoLength

abbrev pub second_allowed : Lengths → Option ℕ → Allowed
second_allowed OnEach l = MayHaveLength
second_allowed OnOne l = unless_there l MayHaveLength
second_allowed OnExactlyOne l = unless_there l HasLength
second_allowed OnNone l = NoLength

-- R9.1: the second address of two, and the end of the operand
unfoldable pub two_of : List ℕ → Address → ℕ → Allowed → Result Shape ℕ
two_of o a p w = behind_addressed (address_at w o p) (λ b q. ended o q (TwoAddresses a b))

-- R9.1: two addresses
unfoldable pub two_shape : Lengths → List ℕ → Result Shape ℕ
two_shape k o =
    behind_addressed (address_at (first_allowed k) o 0) (λ a q. behind_comma o q (λ p. two_of o a p (second_allowed k a.length)))

-- R9.1: one address, or a branch, and Q
unfoldable pub one_shape : List ℕ → Result Shape ℕ
one_shape o = behind_addressed (address_at OnlyRegister o 0) (λ a q. behind_comma o q (λ p. last_at o p (AddressAndCode a p)))

-- R9.1: an extended branch, without Q
unfoldable pub only_shape : List ℕ → Result Shape ℕ
only_shape o = behind_addressed (address_at OnlyRegister o 0) (λ a q. ended o q (LoneAddress a))

-- R8.1, R8.2: DC and DS
abbrev pub behind_data : Result DataSaid ℕ → Result Shape ℕ
behind_data (Ok d) = Ok (Data d)
behind_data (Err q) = Err q

unfoldable pub constant_shape : List ℕ → Result Shape ℕ
constant_shape o = behind_data (constant_form o)

unfoldable pub reserve_shape : List ℕ → Result Shape ℕ
reserve_shape o = behind_data (reserve_form o)

-- R9.1, R7.4 to R7.6, R8.1, R8.2, R12.1: the shape of an operand by the way it is to be written; of no operation it fails at once
abbrev pub shape_by : Pattern → List ℕ → Result Shape ℕ
shape_by Pattern.Unreadable o = Err 0
shape_by Pattern.StartTerm o = start_shape o
shape_by Pattern.Expression o = last_at o 0 Expression
shape_by Pattern.MaybeExpression o = end_shape o
shape_by Pattern.Constant o = constant_shape o
shape_by Pattern.Reserve o = reserve_shape o
shape_by Pattern.Pair o = pair_shape o
shape_by (Pattern.TwoAddresses k) o = two_shape k o
shape_by Pattern.AddressAndCode o = one_shape o
shape_by Pattern.LoneAddress o = only_shape o
shape_by Pattern.Target o = last_at o 0 Target

abbrev pub shape_of : Operation → List ℕ → Result Shape ℕ
shape_of op o = shape_by (pattern_of op) o

-- WHAT A SHAPE SAYS

-- what a data card gives, or else another answer
abbrev pub of_data : {X : Type 0} → Result Shape ℕ → (DataSaid → X) → X → X
of_data (Err q) on other = other
of_data (Ok Nothing) on other = other
of_data (Ok (StartAt v)) on other = other
of_data (Ok Expression) on other = other
of_data (Ok (Pair p)) on other = other
of_data (Ok Target) on other = other
of_data (Ok (TwoAddresses a b)) on other = other
of_data (Ok (AddressAndCode a p)) on other = other
of_data (Ok (LoneAddress a)) on other = other
of_data (Ok (Data d)) on other = on d

-- START's value, or else another number
abbrev pub start_or : Result Shape ℕ → ℕ → ℕ
start_or (Err q) other = other
start_or (Ok Nothing) other = other
start_or (Ok (StartAt v)) other = v
start_or (Ok Expression) other = other
start_or (Ok (Pair p)) other = other
start_or (Ok Target) other = other
start_or (Ok (TwoAddresses a b)) other = other
start_or (Ok (AddressAndCode a p)) other = other
start_or (Ok (LoneAddress a)) other = other
start_or (Ok (Data d)) other = other
