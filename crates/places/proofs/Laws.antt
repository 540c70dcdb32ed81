-- What is there where nothing is refused: a byte of Q, an operand, a jump's byte.
use Prim.Native.Nat.{ℕ, ◌-◌}
use mathlib.Core.Path.{◌≡◌, refl, ap, ◌∙◌}
use mathlib.Core.Bool.{Bool, true, false}
use native.Mathlib.Omega.{arith}
use lib.Dec.{leb}
use Rattle.values.specs.Tests.{pick, both}
use Rattle.values.specs.declared.Value.{Value}
use Rattle.values.specs.declared.Wanted.TheVariants.{Any, OnlyRelocatable}
use Rattle.values.specs.Values.{with_value}
use Rattle.values.proofs.Numbers.{number_above, lower-zero}
use Rattle.expressions.specs.Value.{value_in, refusal_for}
use Rattle.expressions.proofs.Laws.{accepted, accepted-absolute, accepted-relocatable}
use Rattle.forms.specs.Size.{address_size}
use Rattle.operands.specs.declared.EvaluatedAddress.{EvaluatedAddress}
use Rattle.operands.specs.Kinds.{item_no, address_no}
use Rattle.places.specs.declared.Bases.{Bases}
use Rattle.places.specs.declared.Operand.{Operand}
use Rattle.places.specs.Codes.{code_no}
use Rattle.places.specs.Places.{is_register, base_of, away_from, displaced_by, indexed_by, by_register, operand_of, placed_no, operand_size, jump_code, jump_to, reach_no}
use Rattle.std.specs.Prelude.{Option, Some, None, Result, Ok, Err}
use Rattle.expressions.specs.declared.Fault.{Fault}
use Rattle.values.specs.declared.refusals.Refusal.{Refusal}
use Rattle.values.specs.declared.refusals.Refusal.TheVariants.{NoBase, OutOfReach}

-- BYTES

pub record ByteThere (c : Result (Option ℕ) Refusal) : Type 0 where
  pub byte : ℕ
  pub is : c ≡ Ok (Some byte)

pub code-there : (c : Result (Option ℕ) Refusal) → code_no c ≡ 0 → ByteThere c
code-there (Ok (Some b)) e = record { byte = b; is = refl }
code-there (Err r) e = absurd (omega (arith, number_above r))
code-there (Ok None) e = absurd (omega arith)

-- a jump to a relocatable target that reaches it
pub jump-there : (next : ℕ) (e : Result Value Fault) → refusal_for OnlyRelocatable e ≡ 0 → reach_no (jump_to next e) ≡ 0 → ByteThere (jump_to next e)
unfolding jump_code
jump-there next e h r =
    let a = accepted-relocatable e h in
    rw a.good (go (both (leb next a.amount) (leb (a.amount - next) 255)) (a.amount - next) (rw a.good at r))
  where
    go : (b : Bool) (n : ℕ) → reach_no (pick b (Ok (Some n)) (Err OutOfReach)) ≡ 0 → ByteThere (pick b (Ok (Some n)) (Err OutOfReach))
    go true n e = record { byte = n; is = refl }
    go false n e = absurd (omega arith)

-- OPERANDS

-- the bytes of an operand by whether a register is written
abbrev pub item_size : Option (Result Value Fault) → ℕ
item_size None = address_size None
item_size (Some e) = address_size (Some 0)

pub record OperandThere (register : Option (Result Value Fault)) (p : Result (Option Operand) Refusal) : Type 0 where
  pub operand : Operand
  pub is : p ≡ Ok (Some operand)
  pub size : operand_size operand ≡ item_size register

module _ (e : Result Value Fault) where
  away_there : (v : Value) (r from amount : ℕ) → placed_no (away_from v r from amount) ≡ 0 → OperandThere (Some e) (away_from v r from amount)
  unfolding away_from
  away_there v r from amount h = go (both (leb from amount) (leb (amount - from) 255)) h
    where
      go : (b : Bool) → placed_no (pick b (Ok (Some (Operand.Indexed v r (amount - from)))) (Err OutOfReach)) ≡ 0
          → OperandThere (Some e) (pick b (Ok (Some (Operand.Indexed v r (amount - from)))) (Err OutOfReach))
      go true h = record { operand = Operand.Indexed v r (amount - from); is = refl; size = refl }
      go false h = absurd (omega arith)

  displaced-there : (v : Value) (r : ℕ) (base : Option Value) → placed_no (displaced_by v r base) ≡ 0 → OperandThere (Some e) (displaced_by v r base)
  unfolding displaced_by
  displaced-there (Value.Absolute a) r base h = away_there (Value.Absolute a) r 0 a.0 h
  displaced-there (Value.Relocatable a) r None h = absurd (omega arith)
  displaced-there (Value.Relocatable a) r (Some (Value.Absolute b)) h = absurd (omega arith)
  displaced-there (Value.Relocatable a) r (Some (Value.Relocatable b)) h = away_there (Value.Relocatable a) r b.0 a.0 h

  indexed-there : (bases : Bases) (v : Value) (r : ℕ) → placed_no (indexed_by bases v r) ≡ 0 → OperandThere (Some e) (indexed_by bases v r)
  unfolding indexed_by
  indexed-there bases v r h = go (is_register r) h
    where
      go : (b : Bool) → placed_no (pick b (displaced_by v r (base_of bases r)) (Err NoBase)) ≡ 0
          → OperandThere (Some e) (pick b (displaced_by v r (base_of bases r)) (Err NoBase))
      go true h = displaced-there v r (base_of bases r) h
      go false h = absurd (omega arith)

register-there : (bases : Bases) (v : Value) (i : Option (Result Value Fault)) → item_no i ≡ 0 → placed_no (by_register bases v i) ≡ 0 → OperandThere i (by_register bases v i)
register-there bases v None h p = record { operand = Operand.Direct v; is = refl; size = refl }
register-there bases v (Some e) h p =
    let a = accepted-absolute e h in
    let s : by_register bases v (Some e) ≡ indexed_by bases v a.amount = ap (λ x. by_register bases v (Some x)) a.good in
    let there = indexed-there e bases v a.amount (rw s at p) in
    record { operand = there.operand; is = s ∙ there.is; size = there.size }

-- an address of which no expression and no place is refused lies somewhere
pub operand-there : (bases : Bases) (a : EvaluatedAddress) → address_no a ≡ 0 → placed_no (operand_of bases a) ≡ 0 → OperandThere a.register (operand_of bases a)
unfolding operand_of
operand-there bases a h p =
    let (e, i) = lower-zero _ _ h in
    let v = accepted Any a.address e in
    let s : operand_of bases a ≡ by_register bases v.value a.register = ap (λ x. with_value (value_in x) (λ v. by_register bases v a.register) (Ok None)) v.good in
    let there = register-there bases v.value a.register (lower-zero _ _ i).1 (rw s at p) in
    record { operand = there.operand; is = s ∙ there.is; size = there.size }
