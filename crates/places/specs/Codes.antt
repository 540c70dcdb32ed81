-- R10: Q, and refusal 21.
use Rattle.std.specs.Prelude.{ℕ, ◌+◌, ◌-◌, ◌*◌, leb, Option, Some, None, Result, Ok, Err}
use Rattle.values.specs.Tests.{pick, both}
use Rattle.values.specs.Refusals.{number_of}
use Rattle.values.specs.Values.{with_absolute}
use Rattle.expressions.specs.Value.{absolute_in}
use Rattle.operations.specs.declared.Operation.{Operation}
use Rattle.operations.specs.declared.traits.Rule.{Rule}
use Rattle.operations.specs.declared.traits.Rule.TheVariants.{Lengths, Length, Item, Register, Written, Given}
use Rattle.operations.specs.Traits.{rule_of}
use Rattle.operands.specs.declared.EvaluatedAddress.{EvaluatedAddress}
use Rattle.operands.specs.declared.Operands.{Operands}
use Rattle.operands.specs.declared.Operands.TheVariants.{TwoAddresses, AddressAndCode, LoneAddress, Pair, Lone, AddressConstants, NoExpression}
use Rattle.values.specs.declared.Value.{Value}
use Rattle.values.specs.declared.Absolute.{Absolute}
use Rattle.expressions.specs.declared.Fault.{Fault}
use Rattle.values.specs.declared.refusals.Refusal.{Refusal}
use Rattle.values.specs.declared.refusals.Refusal.TheVariants.{BadSize}

-- R10.2: Q of ZAZ, AZ and SZ
unfoldable pub lengths_code : ℕ → ℕ → Result (Option ℕ) Refusal
lengths_code l1 l2 =
    pick (both (leb 1 l2) (both (leb l2 16) (both (leb l2 l1) (leb (l1 - l2) 15)))) (Ok (Some (16 * (l1 - l2) + (l2 - 1)))) (Err BadSize)

-- R10.3: Q of one length
unfoldable pub length_code : ℕ → Result (Option ℕ) Refusal
length_code l = pick (both (leb 1 l) (leb l 256)) (Ok (Some (l - 1))) (Err BadSize)

-- R10.4: Q of MVX
unfoldable pub item_code : ℕ → Result (Option ℕ) Refusal
item_code i = pick (leb i 3) (Ok (Some i)) (Err BadSize)

-- R10.5: Q of LA
unfoldable pub register_code : ℕ → Result (Option ℕ) Refusal
register_code q = pick (both (leb 1 q) (leb q 2)) (Ok (Some q)) (Err BadSize)

-- R10.6: any other Q
unfoldable pub written_code : ℕ → Result (Option ℕ) Refusal
written_code q = pick (leb q 255) (Ok (Some q)) (Err BadSize)

-- R10.8: the absolute value of an item, or another value where no item is written
abbrev pub item_or : Option (Result Value Fault) → Option Absolute → Option Absolute
item_or None other = other
item_or (Some e) other = absolute_in e

-- R10.8: the length of an address, written or implied
abbrev pub length_or : Option (Result Value Fault) → EvaluatedAddress → Option Absolute
length_or item a = item_or item (Some (record { 0 = a.implied }))

-- R10.9, R10.4: two addresses: each its own length, written or implied; or one length, and where none is written that of the first; or MVX's item
abbrev pub two_code : Rule → EvaluatedAddress → EvaluatedAddress → Result (Option ℕ) Refusal
two_code Lengths a b = with_absolute (length_or a.length a) (λ l1. with_absolute (length_or b.length b) (λ l2. lengths_code l1 l2) (Ok None)) (Ok None)
two_code Length a b = with_absolute (item_or a.length (length_or b.length a)) length_code (Ok None)
two_code Item a b = with_absolute (item_or a.length (item_or b.length None)) item_code (Ok None)
two_code Register a b = Ok None
two_code Written a b = Ok None
two_code (Given q) a b = Ok (Some q)

-- R10.5, R10.6: a Q behind a comma
abbrev pub behind_code : Rule → Option Absolute → Result (Option ℕ) Refusal
behind_code Lengths q = Ok None
behind_code Length q = Ok None
behind_code Item q = Ok None
behind_code Register q = with_absolute q register_code (Ok None)
behind_code Written q = with_absolute q written_code (Ok None)
behind_code (Given given) q = Ok (Some given)

-- R10.7: the Q or item of an extended mnemonic
abbrev pub given_code : Rule → Result (Option ℕ) Refusal
given_code Lengths = Ok None
given_code Length = Ok None
given_code Item = Ok None
given_code Register = Ok None
given_code Written = Ok None
given_code (Given q) = Ok (Some q)

unfoldable pub code_of : Operation → Operands → Result (Option ℕ) Refusal
code_of op (TwoAddresses a b) = two_code (rule_of op) a b
code_of op (AddressAndCode a q) = behind_code (rule_of op) (absolute_in q)
code_of op (LoneAddress a) = given_code (rule_of op)
code_of op (Pair e q) = behind_code (rule_of op) (absolute_in q)
code_of op (Lone e) = given_code (rule_of op)
code_of op (AddressConstants n m e) = given_code (rule_of op)
code_of op NoExpression = given_code (rule_of op)

-- R10.2 to R10.6: 21, a length, an item or a Q out of range. Where there is no value, one of 18 to 20 is told before; 0 says that there is a byte
abbrev pub code_no : Result (Option ℕ) Refusal → ℕ
code_no (Ok (Some b)) = 0
code_no (Ok None) = 21
code_no (Err r) = number_of r
