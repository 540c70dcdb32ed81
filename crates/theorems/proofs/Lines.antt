-- Which shapes an operand has by its pattern, and what an operation's row says of them: all that is told of the single operations.
use Rattle.std.specs.Prelude.{◌+◌, ◌≡◌}
use Rattle.theorems.specs.Logic.{Unit, tt, ℕ, List, Bool, true, false, refl, length, ltb, Result, Ok, Err}
use Rattle.theorems.specs.Types.{Term, Operation, Role, Pattern, Use, Rule, Traits, Data, Address, Shape, Line}
use Rattle.values.specs.Tests.{pick}
use Rattle.letters.specs.Text.{stands}
use Rattle.expressions.specs.Form.{form_of, expression_at}
use Rattle.operations.specs.Traits.{traits_of, pattern_of}
use Rattle.data.specs.Form.{constant_form, reserve_form}
use Rattle.addresses.specs.declared.Allowed.TheVariants.{OnlyRegister}
use Rattle.addresses.specs.Address.{address_at}
use Rattle.forms.specs.Shape.{ended, behind_form, behind_addressed, behind_comma, last_at, is_absent, start_term, start_of, start_shape, end_shape, pair_shape, first_allowed, second_allowed, two_of, two_shape, one_shape, only_shape, behind_data, constant_shape, reserve_shape, shape_by, of_data}
use Rattle.lines.specs.declared.Reading.TheVariants.{Statement}
use Rattle.lines.specs.Lines.{reading_of, operand_columns}
use Rattle.lines.proofs.Laws.{line_shape}

-- SHAPES

-- a shape that is no refusal is its pattern's
pub data Has : Pattern → Result Shape ℕ → Type 0 where
  fails : {p : Pattern} {q : ℕ} → Has p (Err q)
  starts : {v : ℕ} → Has Pattern.StartTerm (Ok (Shape.StartAt v))
  lone : Has Pattern.Expression (Ok Shape.Expression)
  nothing : Has Pattern.MaybeExpression (Ok Shape.Nothing)
  maybe : Has Pattern.MaybeExpression (Ok Shape.Expression)
  constant : {d : Data} → Has Pattern.Constant (Ok (Shape.Data d))
  reserve : {d : Data} → Has Pattern.Reserve (Ok (Shape.Data d))
  pair : {q : ℕ} → Has Pattern.Pair (Ok (Shape.Pair q))
  two : {k : _} {a b : Address} → Has (Pattern.TwoAddresses k) (Ok (Shape.TwoAddresses a b))
  one : {a : Address} {q : ℕ} → Has Pattern.AddressAndCode (Ok (Shape.AddressAndCode a q))
  only : {a : Address} → Has Pattern.LoneAddress (Ok (Shape.LoneAddress a))
  target : Has Pattern.Target (Ok Shape.Target)

module _ {p : Pattern} (o : List ℕ) where
  pick_has : (b : Bool) {x y : Result Shape ℕ} → Has p x → Has p y → Has p (pick b x y)
  pick_has true h k = h
  pick_has false h k = k

  ended_has : (q : ℕ) {x : Shape} → Has p (Ok x) → Has p (ended o q x)
  unfolding ended
  ended_has q h = pick_has (ltb q (length o)) fails h

  form_has : (f : Result ℕ ℕ) (on : ℕ → Result Shape ℕ) → ((q : ℕ) → Has p (on q)) → Has p (behind_form f on)
  form_has (Ok q) on h = h q
  form_has (Err q) on h = fails

  comma_has : (q : ℕ) {x : Result Shape ℕ} → Has p x → Has p (pick (stands "," o q) x (Err q))
  comma_has q h = pick_has (stands "," o q) h fails

  address_has : (x : Result (Address × ℕ) ℕ) (on : Address → ℕ → Result Shape ℕ) → ((a : Address) (q : ℕ) → Has p (on a q)) → Has p (behind_addressed x on)
  address_has (Ok (a, q)) on h = h a q
  address_has (Err q) on h = fails

  last_has : (q : ℕ) {x : Shape} → Has p (Ok x) → Has p (last_at o q x)
  unfolding last_at
  last_has q {x} h = form_has (form_of (expression_at o q)) (λ r. ended o r x) (λ r. ended_has r h)

pattern_has : (p : Pattern) (o : List ℕ) → Has p (shape_by p o)
unfolding start_shape end_shape pair_shape two_shape two_of one_shape only_shape constant_shape reserve_shape
pattern_has Pattern.Unreadable o = fails
pattern_has Pattern.StartTerm o = pick_has o (is_absent o) starts (go (start_term o))
  where
    go : (t : Result (Term × ℕ) ℕ) → Has Pattern.StartTerm (start_of o t)
    go (Ok (Term.Number v, q)) = ended_has o q starts
    go (Ok (Term.Symbol k, q)) = fails
    go (Ok (Term.Here, q)) = fails
    go (Err q) = fails
pattern_has Pattern.Expression o = last_has o 0 lone
pattern_has Pattern.MaybeExpression o = pick_has o (is_absent o) nothing (last_has o 0 maybe)
pattern_has Pattern.Constant o = go (constant_form o)
  where
    go : (f : Result Data ℕ) → Has Pattern.Constant (behind_data f)
    go (Ok d) = constant
    go (Err q) = fails
pattern_has Pattern.Reserve o = go (reserve_form o)
  where
    go : (f : Result Data ℕ) → Has Pattern.Reserve (behind_data f)
    go (Ok d) = reserve
    go (Err q) = fails
pattern_has Pattern.Pair o =
    form_has o (form_of (expression_at o 0)) (λ q. behind_comma o q (λ r. last_at o r (Shape.Pair r)))
    (λ q. comma_has o q (last_has o (q + 1) pair))
pattern_has (Pattern.TwoAddresses k) o =
    address_has o (address_at (first_allowed k) o 0) (λ a q. behind_comma o q (λ r. two_of o a r (second_allowed k a.length)))
    (λ a q. comma_has o q
    (address_has o (address_at (second_allowed k a.length) o (q + 1)) (λ b r. ended o r (Shape.TwoAddresses a b)) (λ b r. ended_has o r two)))
pattern_has Pattern.AddressAndCode o =
    address_has o (address_at OnlyRegister o 0) (λ a q. behind_comma o q (λ r. last_at o r (Shape.AddressAndCode a r)))
    (λ a q. comma_has o q (last_has o (q + 1) one))
pattern_has Pattern.LoneAddress o = address_has o (address_at OnlyRegister o 0) (λ a q. ended o q (Shape.LoneAddress a)) (λ a q. ended_has o q only)
pattern_has Pattern.Target o = last_has o 0 target

pub line_has : (s : List ℕ) (l : Line) → reading_of s ≡ Statement l → Has (pattern_of l.operation) l.shape
line_has s l q = rw (line_shape s l q) (pattern_has (pattern_of l.operation) (operand_columns s l))

-- what holds of a data card's answers and of the other answers holds of those of every shape
pub of_data_lem : (P : ((X : Type 0) → (Data → X) → X → X) → Type 0) → ((d : Data) → P (λ X on other. on d)) → P (λ X on other. other)
    → (x : Result Shape ℕ) → P (λ X on other. of_data x on other)
of_data_lem P h k (Err q) = k
of_data_lem P h k (Ok Shape.Nothing) = k
of_data_lem P h k (Ok (Shape.StartAt v)) = k
of_data_lem P h k (Ok Shape.Expression) = k
of_data_lem P h k (Ok (Shape.Pair q)) = k
of_data_lem P h k (Ok Shape.Target) = k
of_data_lem P h k (Ok (Shape.TwoAddresses a b)) = k
of_data_lem P h k (Ok (Shape.AddressAndCode a q)) = k
of_data_lem P h k (Ok (Shape.LoneAddress a)) = k
of_data_lem P h k (Ok (Shape.Data d)) = h d

-- ROWS

abbrev pub jumps : Use → Bool
jumps Use.Jumps = true
jumps Use.Registers = false
jumps Use.Nothing = false

-- R13.4: pass one looks at the expressions of EQU and ORG
abbrev pub early_role : Role → Bool
early_role Role.Starts = false
early_role Role.Equates = true
early_role Role.SetsCounter = true
early_role Role.Ends = false
early_role Role.Advances = false

-- the bytes beside the addresses: an operation byte and Q, or a jump's three
abbrev pub Fixed : Pattern → Use → ℕ → Type 0
Fixed Pattern.Unreadable u n = Unit {0}
Fixed Pattern.StartTerm u n = Unit {0}
Fixed Pattern.Expression u n = jumps u ≡ false
Fixed Pattern.MaybeExpression u n = jumps u ≡ false
Fixed Pattern.Constant u n = Unit {0}
Fixed Pattern.Reserve u n = Unit {0}
Fixed Pattern.Pair u n = n ≡ pick (jumps u) 3 0
Fixed (Pattern.TwoAddresses k) u n = n ≡ 2
Fixed Pattern.AddressAndCode u n = n ≡ 2
Fixed Pattern.LoneAddress u n = n ≡ 2
Fixed Pattern.Target u n = (jumps u ≡ true) × (n ≡ 3)

-- EQU and ORG have one expression, which is all there is to them
abbrev pub Early : Bool → Traits → Type 0
Early true t = (t.pattern ≡ Pattern.Expression) × (t.uses ≡ Use.Nothing) × (t.rule ≡ Rule.Given 0)
Early false t = Unit {0}

pub record Row (t : Traits) : Type 0 where
  pub fixed : Fixed t.pattern t.uses t.fixed
  pub early : Early (early_role t.role) t

pub row_of : (op : Operation) → Row (traits_of op)
row_of Operation.Unknown = record { fixed = tt; early = tt }
row_of Operation.Start = record { fixed = tt; early = tt }
row_of Operation.Equ = record { fixed = refl; early = (refl, refl, refl) }
row_of Operation.Org = record { fixed = refl; early = (refl, refl, refl) }
row_of Operation.Dc = record { fixed = tt; early = tt }
row_of Operation.Ds = record { fixed = tt; early = tt }
row_of Operation.Using = record { fixed = refl; early = tt }
row_of Operation.Drop = record { fixed = refl; early = tt }
row_of Operation.End = record { fixed = refl; early = tt }
row_of (Operation.TwoLengths low) = record { fixed = refl; early = tt }
row_of (Operation.OneLength low) = record { fixed = refl; early = tt }
row_of Operation.HalfBytes = record { fixed = refl; early = tt }
row_of (Operation.HalfBytesOf item) = record { fixed = refl; early = tt }
row_of (Operation.OneAddress low) = record { fixed = refl; early = tt }
row_of (Operation.Branch low) = record { fixed = refl; early = tt }
row_of Operation.LoadAddress = record { fixed = refl; early = tt }
row_of (Operation.BranchOn q) = record { fixed = refl; early = tt }
row_of Operation.Jump = record { fixed = refl; early = tt }
row_of (Operation.JumpOn q) = record { fixed = (refl, refl); early = tt }
