-- R6.10, R13.6: refusals 18, 19 and 20 over all operands: the kind that each expression of a card must have.
use Rattle.std.specs.Prelude.{ℕ, eqb, Option, Some, None, Result}
use Rattle.values.specs.Tests.{pick, lower}
use Rattle.values.specs.declared.Wanted.{Wanted}
use Rattle.values.specs.declared.Wanted.TheVariants.{Any, OnlyAbsolute}
use Rattle.expressions.specs.Value.{refusal_for}
use Rattle.operations.specs.declared.Operation.{Operation}
use Rattle.operations.specs.Traits.{first_wanted}
use Rattle.operands.specs.declared.EvaluatedAddress.{EvaluatedAddress}
use Rattle.operands.specs.declared.Operands.{Operands}
use Rattle.operands.specs.declared.Operands.TheVariants.{TwoAddresses, AddressAndCode, LoneAddress, Pair, Lone, AddressConstants, NoExpression}
use Rattle.values.specs.declared.Value.{Value}
use Rattle.expressions.specs.declared.Fault.{Fault}

-- R10.1, R11.2: an item is absolute
abbrev pub item_no : Option (Result Value Fault) → ℕ
item_no None = 0
item_no (Some e) = refusal_for OnlyAbsolute e

abbrev pub address_no : EvaluatedAddress → ℕ
address_no a = lower (refusal_for Any a.address) (lower (item_no a.length) (item_no a.register))

-- R8.12: an address constant of another length than 2 is absolute
abbrev pub constant_wanted : ℕ → Wanted
constant_wanted m = pick (eqb m 2) Any OnlyAbsolute

-- R13.6: the lowest of 18, 19 and 20 over all operands
unfoldable pub expressions_no : Operation → Operands → ℕ
expressions_no op (TwoAddresses a b) = lower (address_no a) (address_no b)
expressions_no op (AddressAndCode a q) = lower (address_no a) (refusal_for OnlyAbsolute q)
expressions_no op (LoneAddress a) = address_no a
expressions_no op (Pair e q) = lower (refusal_for (first_wanted op) e) (refusal_for OnlyAbsolute q)
expressions_no op (Lone e) = refusal_for (first_wanted op) e
expressions_no op (AddressConstants n m e) = refusal_for (constant_wanted m) e
expressions_no op NoExpression = 0
