-- What callers cite of a shape: every position in it is one of an expression that ends inside the operand; a refusal's place is inside or at the end; which items can be there.
use Prim.{Unit, tt}
use Prim.Native.Nat.{ℕ, ◌+◌, ◌≤◌, ◌<◌}
use mathlib.Core.List.{List}
use mathlib.Core.Bool.{Bool, true, false}
use mathlib.Core.Path.{◌≡◌, refl, ap, ◌∙◌, subst, sym}
use native.Mathlib.Omega.{arith}
use lib.ListN.{length, get_or}
use lib.Dec.{ltb, eqb}
use borrow.Author.Tests.{ltb-true, eqb-true}
use Rattle.values.specs.Tests.{pick}
use Rattle.terms.specs.declared.Term.{Term}
use Rattle.terms.specs.declared.Term.TheVariants.{Number, Symbol, Here}
use Rattle.letters.specs.declared.Class.TheVariants.{Letter}
use Rattle.letters.specs.Letters.{class_of}
use Rattle.letters.specs.Text.{is_from_to, stands}
use Rattle.terms.specs.Terms.{decimal_at, hex_at, lettered_at, term_of, term_at}
use Rattle.terms.proofs.Within.{Within, stands-inside, decimal_within, term-within}
use Rattle.expressions.specs.Form.{form_of, expression_at}
use Rattle.operations.specs.declared.Operation.{Operation}
use Rattle.data.specs.declared.DataCard.{DataCard}
use Rattle.data.specs.declared.DataCard.TheVariants.{Constant, Reserve}
use Rattle.data.specs.declared.Data.{Data as DataSaid}
use Rattle.data.specs.Form.{constant_form, reserve_form}
use Rattle.data.proofs.Card.{OnCard, constant-card, reserve-card}
use Rattle.data.proofs.Within.{ConstantWithin, constant-within, ReserveWithin, reserve-within}
use Rattle.addresses.specs.declared.Address.{Address}
use Rattle.forms.specs.declared.Shape.{Shape}
use Rattle.forms.specs.declared.Shape.TheVariants.{Nothing, StartAt, Expression, Pair, Target, TwoAddresses, AddressAndCode, LoneAddress, Data}
use Rattle.operations.specs.declared.traits.Lengths.{Lengths}
use Rattle.operations.specs.declared.traits.Lengths.TheVariants.{OnEach, OnOne, OnExactlyOne, OnNone}
use Rattle.addresses.specs.declared.Allowed.{Allowed}
use Rattle.addresses.specs.declared.Allowed.TheVariants.{OnlyRegister}
use Rattle.addresses.specs.Address.{address_at}
use Rattle.forms.specs.Size.{address_size}
use Rattle.forms.specs.Shape.{ended, behind_form, behind_addressed, behind_comma, last_at, start_term, start_of, start_shape, end_shape, pair_shape, first_allowed, second_allowed, two_of, two_shape, one_shape, only_shape, behind_data, constant_shape, reserve_shape, shape_by, shape_of}
use Rattle.operations.specs.declared.traits.Pattern.{Pattern}
use Rattle.operations.specs.Traits.{pattern_of}
use Rattle.addresses.proofs.Laws.{Expressed, AddressIn, lengths_in, AsAllowed, AddressedIn, FormIn, expression_in, address_in}
use Rattle.std.specs.Prelude.{Option, Some, None, Result, Ok, Err}

-- the Data of a data card is what its operand says; a DC's value lies inside
abbrev pub DataIn : List ℕ → DataCard → DataSaid → Type 0
DataIn o Constant d = (constant_form o ≡ Ok d) × (d.value + d.count < length o)
DataIn o Reserve d = reserve_form o ≡ Ok d

abbrev pub ShapeIn : List ℕ → Result Shape ℕ → Type 0
ShapeIn o (Err q) = q ≤ length o
ShapeIn o (Ok Nothing) = length o ≡ 0
ShapeIn o (Ok (StartAt v)) = v < 65536
ShapeIn o (Ok Expression) = Expressed o 0
ShapeIn o (Ok (Pair p)) = (Expressed o 0) × (Expressed o p)
ShapeIn o (Ok Target) = Expressed o 0
ShapeIn o (Ok (TwoAddresses a b)) = (AddressIn o a) × (AddressIn o b)
ShapeIn o (Ok (AddressAndCode a p)) = (AddressIn o a) × (Expressed o p)
ShapeIn o (Ok (LoneAddress a)) = AddressIn o a
ShapeIn o (Ok (Data d)) = DataIn o d.card d

-- SHAPES

ended_in : (o : List ℕ) (q : ℕ) (x : Shape) → ShapeIn o (Ok x) → ShapeIn o (ended o q x)
unfolding ended
ended_in o q x i = go (ltb q (length o)) refl
  where
    go : (b : Bool) → ltb q (length o) ≡ b → ShapeIn o (pick b (Err q) (Ok x))
    go true e = omega (arith, ltb-true q (length o) e)
    go false e = i

behind_form_in : (o : List ℕ) (p : ℕ) → p ≤ length o → (on : ℕ → Result Shape ℕ) → ((q : ℕ) → Expressed o p → q ≤ length o → ShapeIn o (on q))
    → ShapeIn o (behind_form (form_of (expression_at o p)) on)
behind_form_in o p h on i = go (form_of (expression_at o p)) (expression_in o p h)
  where
    go : (f : Result ℕ ℕ) → FormIn o p f → ShapeIn o (behind_form f on)
    go (Ok q) w = i q w.0 w.1
    go (Err q) w = w

behind_addressed_in : (P : Option ℕ → Type 0) (o : List ℕ) (x : Result (Address × ℕ) ℕ) (on : Address → ℕ → Result Shape ℕ) → AddressedIn P o x
    → ((a : Address) (q : ℕ) → AddressIn o a → P a.length → q ≤ length o → ShapeIn o (on a q)) → ShapeIn o (behind_addressed x on)
behind_addressed_in P o (Ok (a, q)) on w i = i a q w.0 w.2 w.1
behind_addressed_in P o (Err q) on w i = w

comma_in : (o : List ℕ) (q : ℕ) (on : ℕ → Result Shape ℕ) → q ≤ length o → ((p : ℕ) → p ≤ length o → ShapeIn o (on p)) → ShapeIn o (behind_comma o q on)
comma_in o q on h i = go (stands "," o q) refl
  where
    go : (b : Bool) → stands "," o q ≡ b → ShapeIn o (pick b (on (q + 1)) (Err q))
    go true e = i (q + 1) (omega (arith, stands-inside 44 o q (omega arith) e))
    go false e = h

last_in : (o : List ℕ) (p : ℕ) (x : Shape) → p ≤ length o → (Expressed o p → ShapeIn o (Ok x)) → ShapeIn o (last_at o p x)
unfolding last_at
last_in o p x h i = behind_form_in o p h (λ q. ended o q x) (λ q e k. ended_in o q x (i e))

start_in : (o : List ℕ) (t : Result (Term × ℕ) ℕ) → Within o 0 t → ShapeIn o (start_of o t)
start_in o (Ok (Number v, q)) w = ended_in o q (StartAt v) w.2
start_in o (Ok (Symbol k, q)) w = omega arith
start_in o (Ok (Here, q)) w = omega arith
start_in o (Err q) w = w.1 (omega arith)

-- a hex term is a term
hex_term : (o : List ℕ) → stands "X" o 0 ≡ true → stands "'" o 1 ≡ true → term_at o 0 ≡ hex_at o 0
unfolding term_at lettered_at class_of is_from_to
hex_term o x q =
    let letter : class_of (get_or o 0 0) ≡ Letter = ap class_of (eqb-true (get_or o 0 0) 88 x) in
    ap (term_of o 0) letter ∙ rw (q, x)

start-term_in : (o : List ℕ) → Within o 0 (start_term o)
unfolding start_term
start-term_in o = go (stands "X" o 0) refl (stands "'" o 1) refl
  where
    go : (b : Bool) → stands "X" o 0 ≡ b → (c : Bool) → stands "'" o 1 ≡ c → Within o 0 (pick b (pick c (hex_at o 0) (Err 1)) (decimal_at o 0))
    go true e true f = let w = term-within o 0 in rw (hex_term o e f) at w
    go true e false f = (omega arith, λ l. omega (arith, stands-inside 88 o 0 (omega arith) e))
    go false e c f = decimal_within o 0

absent_in : (o : List ℕ) (x y : Result Shape ℕ) → (length o ≡ 0 → ShapeIn o x) → ShapeIn o y → ShapeIn o (pick (eqb (length o) 0) x y)
absent_in o x y i j = go (eqb (length o) 0) refl
  where
    go : (b : Bool) → eqb (length o) 0 ≡ b → ShapeIn o (pick b x y)
    go true e = i (eqb-true (length o) 0 e)
    go false e = j

start_shape_in : (o : List ℕ) → ShapeIn o (start_shape o)
unfolding start_shape
start_shape_in o = absent_in o (Ok (StartAt 0)) (start_of o (start_term o)) (λ e. omega arith) (start_in o (start_term o) (start-term_in o))

end_shape_in : (o : List ℕ) → ShapeIn o (end_shape o)
unfolding end_shape
end_shape_in o = absent_in o (Ok Nothing) (last_at o 0 Expression) (λ e. e) (last_in o 0 Expression (omega arith) (λ e. e))

pair_in : (o : List ℕ) → ShapeIn o (pair_shape o)
unfolding pair_shape
pair_in o =
    behind_form_in o 0 (omega arith) (λ q. behind_comma o q (λ p. last_at o p (Pair p)))
    (λ q e k. comma_in o q (λ p. last_at o p (Pair p)) k (λ p l. last_in o p (Pair p) l (λ f. (e, f))))

two_of_in : (o : List ℕ) (a : Address) (p : ℕ) (w : Allowed) → AddressIn o a → p ≤ length o → ShapeIn o (two_of o a p w)
unfolding two_of
two_of_in o a p w i h =
    behind_addressed_in (AsAllowed w) o (address_at w o p) (λ b q. ended o q (TwoAddresses a b)) (address_in w o p h) (λ b q j n k. ended_in o q (TwoAddresses a b) (i, j))

two_in : (k : Lengths) (o : List ℕ) → ShapeIn o (two_shape k o)
unfolding two_shape
two_in k o =
    behind_addressed_in (AsAllowed (first_allowed k)) o (address_at (first_allowed k) o 0) (λ a q. behind_comma o q (λ p. two_of o a p (second_allowed k a.length)))
    (address_in (first_allowed k) o 0 (omega arith))
    (λ a q i n l. comma_in o q (λ p. two_of o a p (second_allowed k a.length)) l (λ p m. two_of_in o a p (second_allowed k a.length) i m))

one_in : (o : List ℕ) → ShapeIn o (one_shape o)
unfolding one_shape
one_in o =
    behind_addressed_in (AsAllowed OnlyRegister) o (address_at OnlyRegister o 0) (λ a q. behind_comma o q (λ p. last_at o p (AddressAndCode a p)))
    (address_in OnlyRegister o 0 (omega arith))
    (λ a q i n l. comma_in o q (λ p. last_at o p (AddressAndCode a p)) l (λ p m. last_in o p (AddressAndCode a p) m (λ e. (i, e))))

only_in : (o : List ℕ) → ShapeIn o (only_shape o)
unfolding only_shape
only_in o =
    behind_addressed_in (AsAllowed OnlyRegister) o (address_at OnlyRegister o 0) (λ a q. ended o q (LoneAddress a))
    (address_in OnlyRegister o 0 (omega arith))
    (λ a q i n l. ended_in o q (LoneAddress a) i)

constant_in : (o : List ℕ) → ShapeIn o (constant_shape o)
unfolding constant_shape
constant_in o = go (constant_form o) refl (constant-within o) (constant-card o)
  where
    go : (f : Result DataSaid ℕ) → constant_form o ≡ f → ConstantWithin o f → OnCard Constant f → ShapeIn o (behind_data f)
    go (Ok d) e w k = subst (λ card. DataIn o card d) (sym k) (e, w)
    go (Err q) e w k = w

reserve_in : (o : List ℕ) → ShapeIn o (reserve_shape o)
unfolding reserve_shape
reserve_in o = go (reserve_form o) refl (reserve-within o) (reserve-card o)
  where
    go : (f : Result DataSaid ℕ) → reserve_form o ≡ f → ReserveWithin o f → OnCard Reserve f → ShapeIn o (behind_data f)
    go (Ok d) e w k = subst (λ card. DataIn o card d) (sym k) e
    go (Err q) e w k = w

-- what is known of every shape
pattern_in : (p : Pattern) (o : List ℕ) → ShapeIn o (shape_by p o)
pattern_in Pattern.Unreadable o = omega arith
pattern_in Pattern.StartTerm o = start_shape_in o
pattern_in Pattern.Expression o = last_in o 0 Expression (omega arith) (λ e. e)
pattern_in Pattern.MaybeExpression o = end_shape_in o
pattern_in Pattern.Constant o = constant_in o
pattern_in Pattern.Reserve o = reserve_in o
pattern_in Pattern.Pair o = pair_in o
pattern_in (Pattern.TwoAddresses k) o = two_in k o
pattern_in Pattern.AddressAndCode o = one_in o
pattern_in Pattern.LoneAddress o = only_in o
pattern_in Pattern.Target o = last_in o 0 Target (omega arith) (λ e. e)

pub shape_in : (op : Operation) (o : List ℕ) → ShapeIn o (shape_of op o)
shape_in op o = pattern_in (pattern_of op) o

-- LENGTHS

-- R9.2: on each of ZAZ, AZ and SZ; on one at most; of MVX on exactly one; of extended moves on none
abbrev pub LengthsAllowed : Lengths → ℕ → ℕ → Type 0
LengthsAllowed OnEach m n = (m ≤ 1) × (n ≤ 1)
LengthsAllowed OnOne m n = m + n ≤ 1
LengthsAllowed OnExactlyOne m n = m + n ≡ 1
LengthsAllowed OnNone m n = m + n ≡ 0

-- two addresses with as many lengths as are allowed, or 15
abbrev pub TwoIn : Lengths → Result Shape ℕ → Type 0
TwoIn k (Ok (TwoAddresses a b)) = LengthsAllowed k (lengths_in a.length) (lengths_in b.length)
TwoIn k (Err q) = Unit {0}
TwoIn k (Ok Nothing) = ⊥
TwoIn k (Ok (StartAt v)) = ⊥
TwoIn k (Ok Expression) = ⊥
TwoIn k (Ok (Pair p)) = ⊥
TwoIn k (Ok Target) = ⊥
TwoIn k (Ok (AddressAndCode a p)) = ⊥
TwoIn k (Ok (LoneAddress a)) = ⊥
TwoIn k (Ok (Data d)) = ⊥

allowed : (k : Lengths) (l m : Option ℕ) → AsAllowed (first_allowed k) l → AsAllowed (second_allowed k l) m → LengthsAllowed k (lengths_in l) (lengths_in m)
allowed OnEach l m i j = (i, j)
allowed OnOne None m i j = omega arith
allowed OnOne (Some p) m i j = omega arith
allowed OnExactlyOne None m i j = omega arith
allowed OnExactlyOne (Some p) m i j = omega arith
allowed OnNone l m i j = omega arith

pub two_lengths : (k : Lengths) (o : List ℕ) → TwoIn k (two_shape k o)
unfolding two_shape two_of ended
two_lengths k o = first (address_at (first_allowed k) o 0) (address_in (first_allowed k) o 0 (omega arith))
  where
    done : (a b : Address) (q : ℕ) (c : Bool) → LengthsAllowed k (lengths_in a.length) (lengths_in b.length) → TwoIn k (pick c (Err q) (Ok (TwoAddresses a b)))
    done a b q true i = tt
    done a b q false i = i

    second : (a : Address) → AsAllowed (first_allowed k) a.length → (x : Result (Address × ℕ) ℕ) → AddressedIn (AsAllowed (second_allowed k a.length)) o x
        → TwoIn k (behind_addressed x (λ b q. pick (ltb q (length o)) (Err q) (Ok (TwoAddresses a b))))
    second a i (Ok (b, q)) w = done a b q (ltb q (length o)) (allowed k a.length b.length i w.2)
    second a i (Err q) w = tt

    comma : (a : Address) → AsAllowed (first_allowed k) a.length → (q : ℕ) (c : Bool) → stands "," o q ≡ c
        → TwoIn k (pick c (two_of o a (q + 1) (second_allowed k a.length)) (Err q))
    comma a i q true e =
        second a i (address_at (second_allowed k a.length) o (q + 1))
        (address_in (second_allowed k a.length) o (q + 1) (omega (arith, stands-inside 44 o q (omega arith) e)))
    comma a i q false e = tt

    first : (x : Result (Address × ℕ) ℕ) → AddressedIn (AsAllowed (first_allowed k)) o x
        → TwoIn k (behind_addressed x (λ a q. behind_comma o q (λ p. two_of o a p (second_allowed k a.length))))
    first (Ok (a, q)) w = comma a w.2 q (stands "," o q) refl
    first (Err q) w = tt

-- SIZES

-- R9.6: two bytes where direct, one where indexed
pub address-size : (r : Option ℕ) → (1 ≤ address_size r) × (address_size r ≤ 2)
address-size None = (omega arith, omega arith)
address-size (Some p) = (omega arith, omega arith)
