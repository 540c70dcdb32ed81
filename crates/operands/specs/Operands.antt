-- What the expressions of a card's operand come to, over what the names say, the counter at the start of the card, and the operand's columns.
use Rattle.std.specs.Prelude.{Option, Some, None, ℕ, List, Result, Ok, Err}
use Rattle.names.specs.declared.Meaning.{Meaning}
use Rattle.terms.specs.Terms.{term_at}
use Rattle.expressions.specs.Form.{expression_at}
use Rattle.expressions.specs.Value.{evaluated, term_length}
use Rattle.data.specs.declared.DataCard.{DataCard}
use Rattle.data.specs.declared.DataType.{DataType}
use Rattle.data.specs.declared.DataType.TheVariants.{Characters, Hexadecimal, Decimal, Address}
use Rattle.data.specs.declared.Data.{Data}
use Rattle.addresses.specs.declared.Address.{Address as Written}
use Rattle.forms.specs.declared.Shape.{Shape}
use Rattle.operands.specs.declared.EvaluatedAddress.{EvaluatedAddress}
use Rattle.operands.specs.declared.Operands.{Operands}
use Rattle.operands.specs.declared.Operands.TheVariants.{TwoAddresses, AddressAndCode, LoneAddress, Pair, Lone, AddressConstants, NoExpression}
use Rattle.values.specs.declared.Value.{Value}
use Rattle.expressions.specs.declared.Fault.{Fault}

abbrev pub item_of : (ℕ → Option Meaning) → ℕ → List ℕ → Option ℕ → Option (Result Value Fault)
item_of look here o None = None
item_of look here o (Some p) = Some (evaluated look here (expression_at o p))

-- R10.8: an address with its items, and the length that it implies
abbrev pub address_of : (ℕ → Option Meaning) → ℕ → List ℕ → Written → EvaluatedAddress
address_of look here o a = record {
  address = evaluated look here (expression_at o a.at);
  length = item_of look here o a.length;
  register = item_of look here o a.register;
  implied = term_length look (term_at o a.at);
}

-- R8.12: only the address constants of a DC have an expression
abbrev pub by_type : DataType → Operands → Operands
by_type Characters x = NoExpression
by_type Hexadecimal x = NoExpression
by_type Decimal x = NoExpression
by_type Address x = x

abbrev pub by_card : DataCard → Operands → Operands
by_card DataCard.Constant x = x
by_card DataCard.Reserve x = NoExpression

abbrev pub constant_of : (ℕ → Option Meaning) → ℕ → List ℕ → Data → Operands
constant_of look here o d =
    by_card d.card (by_type d.kind (AddressConstants d.copies d.length (evaluated look here (expression_at o d.value))))

unfoldable pub operands_of : (ℕ → Option Meaning) → ℕ → List ℕ → Result Shape ℕ → Operands
operands_of look here o (Err p) = NoExpression
operands_of look here o (Ok Shape.Nothing) = NoExpression
operands_of look here o (Ok (Shape.StartAt n)) = NoExpression
operands_of look here o (Ok Shape.Expression) = Lone (evaluated look here (expression_at o 0))
operands_of look here o (Ok (Shape.Pair p)) = Pair (evaluated look here (expression_at o 0)) (evaluated look here (expression_at o p))
operands_of look here o (Ok Shape.Target) = Lone (evaluated look here (expression_at o 0))
operands_of look here o (Ok (Shape.TwoAddresses a b)) = TwoAddresses (address_of look here o a) (address_of look here o b)
operands_of look here o (Ok (Shape.AddressAndCode a q)) = AddressAndCode (address_of look here o a) (evaluated look here (expression_at o q))
operands_of look here o (Ok (Shape.LoneAddress a)) = LoneAddress (address_of look here o a)
operands_of look here o (Ok (Shape.Data d)) = constant_of look here o d
