-- What an accepted card has: every part of its statement; and what the value of an only expression fits in.
use Prim.Native.Nat.{ℕ, ◌<◌}
use mathlib.Core.List.{List}
use mathlib.Core.Path.{◌≡◌, refl, ap}
use Rattle.values.specs.declared.Value.{Value}
use Rattle.values.specs.declared.Wanted.TheVariants.{OnlyRelocatable}
use Rattle.values.specs.Values.{amount_of}
use Rattle.values.proofs.Laws.{clash}
use Rattle.values.proofs.Numbers.{or_zero, lower-zero}
use Rattle.names.specs.declared.Meaning.{Meaning}
use Rattle.expressions.specs.Form.{expression_at}
use Rattle.expressions.specs.Value.{evaluated, value_in, refusal_for}
use Rattle.expressions.proofs.Laws.{accepted, value-fits}
use Rattle.operations.specs.declared.Operation.{Operation}
use Rattle.operations.specs.declared.traits.Use.{Use}
use Rattle.operations.specs.Traits.{first_wanted, use_of}
use Rattle.data.specs.declared.DataCard.{DataCard}
use Rattle.data.specs.declared.DataType.{DataType}
use Rattle.forms.specs.declared.Shape.{Shape}
use Rattle.forms.specs.Size.{address_size}
use Rattle.operands.specs.declared.EvaluatedAddress.{EvaluatedAddress}
use Rattle.operands.specs.declared.Operands.{Operands}
use Rattle.operands.specs.Operands.{item_of, operands_of, by_type, by_card}
use Rattle.operands.specs.Kinds.{constant_wanted, expressions_no}
use Rattle.places.specs.declared.Bases.{Bases}
use Rattle.places.specs.declared.Operand.{Operand}
use Rattle.places.specs.Codes.{code_of, code_no}
use Rattle.places.specs.Places.{operand_of, jump_to, places_no}
use Rattle.places.proofs.Laws.{code-there, jump-there, item_size, OperandThere, operand-there}
use Rattle.statements.specs.declared.Statement.{Statement}
use Rattle.statements.specs.Statements.{next_of, statement_no, two_of, one_of, jump_of, constants_of, statement_from, lone_value}
use Rattle.std.specs.Prelude.{Option, Some, None, Result, Ok, Err}
use Rattle.expressions.specs.declared.Fault.{Fault}
use Rattle.values.specs.declared.refusals.Refusal.{Refusal}
use Rattle.expressions.specs.declared.Fault.TheVariants.{Malformed, Undefined, WrongKind, OutOfRange}

-- ACCEPTED

pub record Accepted (op : Operation) (x : Operands) (here : ℕ) (bases : Bases) : Type 0 where
  pub expressions : expressions_no op x ≡ 0
  pub code : code_no (code_of op x) ≡ 0
  pub places : places_no (use_of op) x (next_of op here) bases ≡ 0

pub accepted-card : (op : Operation) (x : Operands) (here : ℕ) (bases : Bases) → statement_no op x here bases ≡ 0 → Accepted op x here bases
unfolding statement_no
accepted-card op x here bases h =
    let (e, rest) = or_zero _ _ h in
    let (c, p) = or_zero _ _ rest in
    record { expressions = e; code = c; places = p }

-- a statement with one operand, and with two; each operand is where its address lies
pub record OneThere (op : Operation) (a : EvaluatedAddress) (bases : Bases) (s : Statement) : Type 0 where
  pub q : ℕ
  pub first : OperandThere a.register (operand_of bases a)
  pub is : s ≡ Statement.OneAddress op q first.operand

pub record TwoThere (op : Operation) (a b : EvaluatedAddress) (bases : Bases) (s : Statement) : Type 0 where
  pub q : ℕ
  pub first : OperandThere a.register (operand_of bases a)
  pub second : OperandThere b.register (operand_of bases b)
  pub is : s ≡ Statement.TwoAddresses op q first.operand second.operand

pub record JumpThere (s : Statement) : Type 0 where
  pub q : ℕ
  pub byte : ℕ
  pub is : s ≡ Statement.Jump q byte

pub record ConstantsThere (copies length : ℕ) (e : Result Value Fault) (s : Statement) : Type 0 where
  pub value : Value
  pub good : e ≡ Ok value
  pub is : s ≡ Statement.AddressConstants copies length value

-- a card that jumps wants a relocatable target
pub jump_wants : (op : Operation) → use_of op ≡ Use.Jumps → first_wanted op ≡ OnlyRelocatable
jump_wants Operation.Unknown e = clash (cc)
jump_wants Operation.Start e = clash (cc)
jump_wants Operation.Equ e = clash (cc)
jump_wants Operation.Org e = refl
jump_wants Operation.Dc e = clash (cc)
jump_wants Operation.Ds e = clash (cc)
jump_wants Operation.Using e = clash (cc)
jump_wants Operation.Drop e = clash (cc)
jump_wants Operation.End e = refl
jump_wants (Operation.TwoLengths low) e = clash (cc)
jump_wants (Operation.OneLength low) e = clash (cc)
jump_wants Operation.HalfBytes e = clash (cc)
jump_wants (Operation.HalfBytesOf item) e = clash (cc)
jump_wants (Operation.OneAddress low) e = clash (cc)
jump_wants (Operation.Branch low) e = clash (cc)
jump_wants Operation.LoadAddress e = clash (cc)
jump_wants (Operation.BranchOn q) e = clash (cc)
jump_wants Operation.Jump e = refl
jump_wants (Operation.JumpOn q) e = refl

two_is : (op : Operation) (c : Result (Option ℕ) Refusal) (a b : Result (Option Operand) Refusal) (q : ℕ) (x y : Operand) → c ≡ Ok (Some q) → a ≡ Ok (Some x) → b ≡ Ok (Some y) → two_of op c a b ≡ Statement.TwoAddresses op q x y
two_is op c a b q x y d e f = rw (d, e, f)

one-is : (op : Operation) (c : Result (Option ℕ) Refusal) (a : Result (Option Operand) Refusal) (q : ℕ) (x : Operand) → c ≡ Ok (Some q) → a ≡ Ok (Some x) → one_of op c a ≡ Statement.OneAddress op q x
one-is op c a q x d e = rw (d, e)

jump-is : (u : Use) (c reach : Result (Option ℕ) Refusal) (q byte : ℕ) → u ≡ Use.Jumps → c ≡ Ok (Some q) → reach ≡ Ok (Some byte) → jump_of u c reach ≡ Statement.Jump q byte
jump-is u c reach q byte d e f = rw (d, e, f)

module _ (op : Operation) (here : ℕ) (bases : Bases) where
  pub two-there : (a b : EvaluatedAddress) → statement_no op (Operands.TwoAddresses a b) here bases ≡ 0
      → TwoThere op a b bases (statement_from op (Operands.TwoAddresses a b) here bases)
  unfolding statement_from expressions_no places_no
  two-there a b h =
      let k = accepted-card op (Operands.TwoAddresses a b) here bases h in
      let (e, f) = lower-zero _ _ k.expressions in
      let (p, r) = lower-zero _ _ k.places in
      let c = code-there (code_of op (Operands.TwoAddresses a b)) k.code in
      let x = operand-there bases a e p in
      let y = operand-there bases b f r in
      record { q = c.byte; first = x; second = y; is = two_is op (code_of op (Operands.TwoAddresses a b)) (operand_of bases a) (operand_of bases b) _ _ _ c.is x.is y.is }

  pub one-there : (a : EvaluatedAddress) (q : Result Value Fault) → statement_no op (Operands.AddressAndCode a q) here bases ≡ 0
      → OneThere op a bases (statement_from op (Operands.AddressAndCode a q) here bases)
  unfolding statement_from expressions_no places_no
  one-there a q h =
      let k = accepted-card op (Operands.AddressAndCode a q) here bases h in
      let c = code-there (code_of op (Operands.AddressAndCode a q)) k.code in
      let x = operand-there bases a (lower-zero _ _ k.expressions).0 k.places in
      record { q = c.byte; first = x; is = one-is op (code_of op (Operands.AddressAndCode a q)) (operand_of bases a) _ _ c.is x.is }

  pub lone-there : (a : EvaluatedAddress) → statement_no op (Operands.LoneAddress a) here bases ≡ 0
      → OneThere op a bases (statement_from op (Operands.LoneAddress a) here bases)
  unfolding statement_from expressions_no places_no
  lone-there a h =
      let k = accepted-card op (Operands.LoneAddress a) here bases h in
      let c = code-there (code_of op (Operands.LoneAddress a)) k.code in
      let x = operand-there bases a k.expressions k.places in
      record { q = c.byte; first = x; is = one-is op (code_of op (Operands.LoneAddress a)) (operand_of bases a) _ _ c.is x.is }

  pub pair-there : (e q : Result Value Fault) → use_of op ≡ Use.Jumps → statement_no op (Operands.Pair e q) here bases ≡ 0
      → JumpThere (statement_from op (Operands.Pair e q) here bases)
  unfolding statement_from expressions_no places_no
  pair-there e q u h =
      let k = accepted-card op (Operands.Pair e q) here bases h in
      let c = code-there (code_of op (Operands.Pair e q)) k.code in
      let w : refusal_for OnlyRelocatable e ≡ 0 = rw (← jump_wants op u) (lower-zero _ _ k.expressions).0 in
      let j = jump-there (next_of op here) e w (rw u at k.places) in
      record { q = c.byte; byte = j.byte; is = jump-is (use_of op) (code_of op (Operands.Pair e q)) (jump_to (next_of op here) e) _ _ u c.is j.is }

  pub target-there : (e : Result Value Fault) → use_of op ≡ Use.Jumps → statement_no op (Operands.Lone e) here bases ≡ 0
      → JumpThere (statement_from op (Operands.Lone e) here bases)
  unfolding statement_from expressions_no places_no
  target-there e u h =
      let k = accepted-card op (Operands.Lone e) here bases h in
      let c = code-there (code_of op (Operands.Lone e)) k.code in
      let w : refusal_for OnlyRelocatable e ≡ 0 = rw (← jump_wants op u) k.expressions in
      let j = jump-there (next_of op here) e w (rw u at k.places) in
      record { q = c.byte; byte = j.byte; is = jump-is (use_of op) (code_of op (Operands.Lone e)) (jump_to (next_of op here) e) _ _ u c.is j.is }

  pub constants_there : (copies length : ℕ) (e : Result Value Fault) → statement_no op (Operands.AddressConstants copies length e) here bases ≡ 0
      → ConstantsThere copies length e (statement_from op (Operands.AddressConstants copies length e) here bases)
  unfolding statement_from expressions_no
  constants_there copies length e h =
      let k = accepted-card op (Operands.AddressConstants copies length e) here bases h in
      let v = accepted (constant_wanted length) e k.expressions in
      record { value = v.value; good = v.good; is = ap (λ x. constants_of copies length (value_in x)) v.good }

-- the bytes of an operand are those that the form of its address says
pub written-size : (look : ℕ → Option Meaning) (here : ℕ) (o : List ℕ) (i : Option ℕ) → item_size (item_of look here o i) ≡ address_size i
written-size look here o None = refl
written-size look here o (Some p) = refl

-- THE VALUE OF AN ONLY EXPRESSION

is-good : (e : Result Value Fault) (v : Value) → value_in e ≡ Some v → e ≡ Ok v
is-good (Ok w) v h = cc
is-good (Err Malformed) v h = clash (cc)
is-good (Err Undefined) v h = clash (cc)
is-good (Err WrongKind) v h = clash (cc)
is-good (Err (OutOfRange k)) v h = clash (cc)

-- it has 16 bits
pub lone-fits : (look : ℕ → Option Meaning) (here : ℕ) (o : List ℕ) (x : Result Shape ℕ) (v : Value) → lone_value (operands_of look here o x) ≡ Some v → amount_of v < 65536
unfolding operands_of
lone-fits look here o (Err q) v h = clash (cc)
lone-fits look here o (Ok Shape.Nothing) v h = clash (cc)
lone-fits look here o (Ok (Shape.StartAt n)) v h = clash (cc)
lone-fits look here o (Ok Shape.Expression) v h = value-fits look here (expression_at o 0) v (is-good (evaluated look here (expression_at o 0)) v h)
lone-fits look here o (Ok (Shape.Pair p)) v h = clash (cc)
lone-fits look here o (Ok Shape.Target) v h = value-fits look here (expression_at o 0) v (is-good (evaluated look here (expression_at o 0)) v h)
lone-fits look here o (Ok (Shape.TwoAddresses a b)) v h = clash (cc)
lone-fits look here o (Ok (Shape.AddressAndCode a p)) v h = clash (cc)
lone-fits look here o (Ok (Shape.LoneAddress a)) v h = clash (cc)
lone-fits look here o (Ok (Shape.Data d)) v h = go d.card d.kind h
  where
    go : (c : DataCard) (k : DataType) → lone_value (by_card c (by_type k (Operands.AddressConstants d.copies d.length (evaluated look here (expression_at o d.value))))) ≡ Some v → amount_of v < 65536
    go DataCard.Reserve k h = clash (cc)
    go DataCard.Constant DataType.Characters h = clash (cc)
    go DataCard.Constant DataType.Hexadecimal h = clash (cc)
    go DataCard.Constant DataType.Decimal h = clash (cc)
    go DataCard.Constant DataType.Address h = clash (cc)
