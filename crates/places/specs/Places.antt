-- R11: operands, bases and jumps; refusals 22 and 23.
use Rattle.std.specs.Prelude.{ℕ, ◌-◌, Bool, leb, eqb, Option, Some, None, Result, Ok, Err}
use Rattle.values.specs.Tests.{pick, both, lower}
use Rattle.values.specs.Refusals.{number_in}
use Rattle.values.specs.declared.Value.{Value}
use Rattle.values.specs.Values.{with_value, with_absolute, with_relocatable}
use Rattle.expressions.specs.Value.{value_in, absolute_in, relocatable_in}
use Rattle.forms.specs.Size.{address_size}
use Rattle.operations.specs.declared.traits.Use.{Use}
use Rattle.operations.specs.declared.traits.Use.TheVariants.{Jumps, Registers}
use Rattle.operands.specs.declared.EvaluatedAddress.{EvaluatedAddress}
use Rattle.operands.specs.declared.Operands.{Operands}
use Rattle.operands.specs.declared.Operands.TheVariants.{TwoAddresses, AddressAndCode, LoneAddress, Pair, Lone, AddressConstants, NoExpression}
use Rattle.places.specs.declared.Bases.{Bases}
use Rattle.places.specs.declared.Operand.{Operand}
use Rattle.places.specs.declared.Operand.TheVariants.{Direct, Indexed}
use Rattle.values.specs.declared.Absolute.{Absolute}
use Rattle.expressions.specs.declared.Fault.{Fault}
use Rattle.values.specs.declared.refusals.Refusal.{Refusal}
use Rattle.values.specs.declared.refusals.Refusal.TheVariants.{NoBase, OutOfReach}

-- REGISTERS AND BASES

abbrev pub is_register : ℕ → Bool
is_register r = both (leb 1 r) (leb r 2)

-- the base of register 1, or 2
abbrev pub base_of : Bases → ℕ → Option Value
base_of bases r = pick (eqb r 1) bases.one bases.two

-- R11.3, R11.4: a value by a register, where it is 0 to 255 above a place; else 23
unfoldable pub away_from : Value → ℕ → ℕ → ℕ → Result (Option Operand) Refusal
away_from v r from amount = pick (both (leb from amount) (leb (amount - from) 255)) (Ok (Some (Indexed v r (amount - from)))) (Err OutOfReach)

-- R11.4, R11.5: a relocatable address is told from a relocatable base; any other base is 22
abbrev pub away_from_base : Value → ℕ → ℕ → Value → Result (Option Operand) Refusal
away_from_base v r amount (Value.Absolute b) = Err NoBase
away_from_base v r amount (Value.Relocatable b) = away_from v r b.0 amount

abbrev pub under_base : Value → ℕ → ℕ → Option Value → Result (Option Operand) Refusal
under_base v r amount None = Err NoBase
under_base v r amount (Some b) = away_from_base v r amount b

-- R11.3: an absolute address is the byte itself
unfoldable pub displaced_by : Value → ℕ → Option Value → Result (Option Operand) Refusal
displaced_by (Value.Absolute a) r base = away_from (Value.Absolute a) r 0 a.0
displaced_by (Value.Relocatable a) r base = under_base (Value.Relocatable a) r a.0 base

-- R11.2: 22, a register that is not 1 or 2
unfoldable pub indexed_by : Bases → Value → ℕ → Result (Option Operand) Refusal
indexed_by bases v r = pick (is_register r) (displaced_by v r (base_of bases r)) (Err NoBase)

-- R9.7: direct where no register is written, whatever a register's value is
abbrev pub by_register : Bases → Value → Option (Result Value Fault) → Result (Option Operand) Refusal
by_register bases v None = Ok (Some (Direct v))
by_register bases v (Some e) = with_absolute (absolute_in e) (indexed_by bases v) (Ok None)

unfoldable pub operand_of : Bases → EvaluatedAddress → Result (Option Operand) Refusal
operand_of bases a = with_value (value_in a.address) (λ v. by_register bases v a.register) (Ok None)

abbrev pub placed_no : Result (Option Operand) Refusal → ℕ
placed_no p = number_in p

-- R9.6: the bytes of an operand, those of an address without a register, or with one
abbrev pub operand_size : Operand → ℕ
operand_size (Direct v) = address_size None
operand_size (Indexed v r displacement) = address_size (Some 0)

-- JUMPS

-- R11.8: a jump's byte, 0 to 255 from the jump's end to its target
unfoldable pub jump_code : ℕ → ℕ → Result (Option ℕ) Refusal
jump_code next to = pick (both (leb next to) (leb (to - next) 255)) (Ok (Some (to - next))) (Err OutOfReach)

abbrev pub jump_to : ℕ → Result Value Fault → Result (Option ℕ) Refusal
jump_to next target = with_relocatable (relocatable_in target) (jump_code next) (Ok None)

-- R11.8: 23, a jump that does not reach
abbrev pub reach_no : Result (Option ℕ) Refusal → ℕ
reach_no c = number_in c

-- CARDS

-- R11.2: 22 of USING and DROP
abbrev pub register_no : Option Absolute → ℕ
register_no register = with_absolute register (λ r. pick (is_register r) 0 22) 0

-- `next`: the address behind the card
abbrev pub use_no : Use → ℕ → Result Value Fault → Result Value Fault → ℕ
use_no Jumps next first last = reach_no (jump_to next first)
use_no Registers next first last = register_no (absolute_in last)
use_no Use.Nothing next first last = 0

-- R13.6: 22 and 23, the lower of two operands'
unfoldable pub places_no : Use → Operands → ℕ → Bases → ℕ
places_no u (TwoAddresses a b) next bases = lower (placed_no (operand_of bases a)) (placed_no (operand_of bases b))
places_no u (AddressAndCode a q) next bases = placed_no (operand_of bases a)
places_no u (LoneAddress a) next bases = placed_no (operand_of bases a)
places_no u (Pair e last) next bases = use_no u next e last
places_no u (Lone e) next bases = use_no u next e e
places_no u (AddressConstants n m e) next bases = 0
places_no u NoExpression next bases = 0

-- USING AND DROP

abbrev pub with_base : Bases → ℕ → Option Value → Bases
with_base bases r base =
    pick (eqb r 1) (record { one = base; two = bases.two }) (pick (eqb r 2) (record { one = bases.one; two = base }) bases)

-- R11.6, R11.7: USING gives a base of either kind, DROP takes it away
abbrev pub using_base : Bases → Option Absolute → Option Value → Bases
using_base bases register base = with_absolute register (λ r. with_value base (λ v. with_base bases r (Some v)) bases) bases

abbrev pub drop_base : Bases → Option Absolute → Bases
drop_base bases register = with_absolute register (λ r. with_base bases r None) bases

abbrev pub registered_by : Operands → Bases → Bases
registered_by (TwoAddresses a b) bases = bases
registered_by (AddressAndCode a q) bases = bases
registered_by (LoneAddress a) bases = bases
registered_by (Pair e r) bases = using_base bases (absolute_in r) (value_in e)
registered_by (Lone r) bases = drop_base bases (absolute_in r)
registered_by (AddressConstants n m e) bases = bases
registered_by NoExpression bases = bases

unfoldable pub bases_by : Use → Operands → Bases → Bases
bases_by Jumps x bases = bases
bases_by Registers x bases = registered_by x bases
bases_by Use.Nothing x bases = bases
