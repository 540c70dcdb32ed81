-- R13.6, R9.5: a card's meaning: the lowest of refusals 18 to 23 that holds, and its statement.
use Rattle.std.specs.Prelude.{Option, Some, None, ℕ, ◌+◌, List, Result, Ok, Err}
use Rattle.values.specs.Tests.{or_else}
use Rattle.values.specs.Values.{with_value}
use Rattle.names.specs.declared.Meaning.{Meaning}
use Rattle.expressions.specs.Value.{value_in}
use Rattle.operations.specs.declared.Operation.{Operation}
use Rattle.operations.specs.declared.traits.Use.{Use}
use Rattle.operations.specs.Traits.{use_of, fixed_size}
use Rattle.forms.specs.declared.Shape.{Shape}
use Rattle.operands.specs.declared.Operands.{Operands}
use Rattle.operands.specs.Operands.{operands_of}
use Rattle.operands.specs.Kinds.{expressions_no}
use Rattle.places.specs.declared.Bases.{Bases}
use Rattle.places.specs.declared.Operand.{Operand}
use Rattle.places.specs.Codes.{code_of, code_no}
use Rattle.places.specs.Places.{operand_of, jump_to, places_no, bases_by}
use Rattle.statements.specs.declared.Statement.{Statement}
use Rattle.statements.specs.declared.Statement.TheVariants.{TwoAddresses, OneAddress, Jump, AddressConstants, NoBytes}
use Rattle.values.specs.declared.Value.{Value}
use Rattle.values.specs.declared.refusals.Refusal.{Refusal}

-- the address behind a card that jumps
abbrev pub next_of : Operation → ℕ → ℕ
next_of op here = here + fixed_size op

-- R13.3, R13.6: the lowest that holds: 18, 19 and 20, then 21, then 22 and 23
unfoldable pub statement_no : Operation → Operands → ℕ → Bases → ℕ
statement_no op x here bases = or_else (expressions_no op x) (or_else (code_no (code_of op x)) (places_no (use_of op) x (next_of op here) bases))

-- a statement with a byte or an operand, where there is one
abbrev pub with_code : Result (Option ℕ) Refusal → (ℕ → Statement) → Statement
with_code (Ok (Some b)) f = f b
with_code (Ok None) f = NoBytes
with_code (Err r) f = NoBytes

abbrev pub with_operand : Result (Option Operand) Refusal → (Operand → Statement) → Statement
with_operand (Ok (Some x)) f = f x
with_operand (Ok None) f = NoBytes
with_operand (Err r) f = NoBytes

abbrev pub two_of : Operation → Result (Option ℕ) Refusal → Result (Option Operand) Refusal → Result (Option Operand) Refusal → Statement
two_of op code first second = with_code code (λ q. with_operand first (λ a. with_operand second (λ b. TwoAddresses op q a b)))

abbrev pub one_of : Operation → Result (Option ℕ) Refusal → Result (Option Operand) Refusal → Statement
one_of op code first = with_code code (λ q. with_operand first (λ a. OneAddress op q a))

abbrev pub jump_with : Result (Option ℕ) Refusal → Result (Option ℕ) Refusal → Statement
jump_with code reach = with_code code (λ q. with_code reach (λ byte. Jump q byte))

-- a card that does not jump makes no byte of its lone expression
abbrev pub jump_of : Use → Result (Option ℕ) Refusal → Result (Option ℕ) Refusal → Statement
jump_of Use.Jumps code reach = jump_with code reach
jump_of Use.Registers code reach = NoBytes
jump_of Use.Nothing code reach = NoBytes

abbrev pub constants_of : ℕ → ℕ → Option Value → Statement
constants_of copies length v = with_value v (λ v. AddressConstants copies length v) NoBytes

-- R9.5, R8.13: the statement, where every part of it is there
unfoldable pub statement_from : Operation → Operands → ℕ → Bases → Statement
statement_from op (Operands.TwoAddresses a b) here bases = two_of op (code_of op (Operands.TwoAddresses a b)) (operand_of bases a) (operand_of bases b)
statement_from op (Operands.AddressAndCode a q) here bases = one_of op (code_of op (Operands.AddressAndCode a q)) (operand_of bases a)
statement_from op (Operands.LoneAddress a) here bases = one_of op (code_of op (Operands.LoneAddress a)) (operand_of bases a)
statement_from op (Operands.Pair e q) here bases = jump_of (use_of op) (code_of op (Operands.Pair e q)) (jump_to (next_of op here) e)
statement_from op (Operands.Lone e) here bases = jump_of (use_of op) (code_of op (Operands.Lone e)) (jump_to (next_of op here) e)
statement_from op (Operands.AddressConstants n m e) here bases = constants_of n m (value_in e)
statement_from op Operands.NoExpression here bases = NoBytes

-- R11.6, R11.7: the bases in force behind a card
abbrev pub bases_after : Operation → Operands → Bases → Bases
bases_after op x bases = bases_by (use_of op) x bases

-- R7.5, R7.6, R12.1: the value of a card's only expression: EQU's value, ORG's counter, END's entry
abbrev pub lone_value : Operands → Option Value
lone_value (Operands.TwoAddresses a b) = None
lone_value (Operands.AddressAndCode a q) = None
lone_value (Operands.LoneAddress a) = None
lone_value (Operands.Pair e q) = None
lone_value (Operands.Lone e) = value_in e
lone_value (Operands.AddressConstants n m e) = None
lone_value Operands.NoExpression = None

-- from the shape of the operand, its columns, what the names say, the counter at the start of the card and the bases in force
abbrev pub instruction_no : Operation → Result Shape ℕ → List ℕ → (ℕ → Option Meaning) → ℕ → Bases → ℕ
instruction_no op shape o look here bases = statement_no op (operands_of look here o shape) here bases

abbrev pub statement_of : Operation → Result Shape ℕ → List ℕ → (ℕ → Option Meaning) → ℕ → Bases → Statement
statement_of op shape o look here bases = statement_from op (operands_of look here o shape) here bases
