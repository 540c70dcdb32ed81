-- R4.4, R9.9: the operation byte, by the formula of the operands' modes.
use Rattle.std.specs.Prelude.{ℕ, ◌+◌, ◌*◌, ◌%◌}
use Rattle.operations.specs.declared.Operation.{Operation}
use Rattle.operations.specs.declared.traits.Opcode.{Opcode}
use Rattle.operations.specs.declared.traits.Opcode.TheVariants.{NoByte, ByTwoModes, ByOneMode, ByBranchMode, Fixed}
use Rattle.operations.specs.Traits.{traits_of}

-- a byte by its two halves
abbrev pub halves : ℕ → ℕ → ℕ
halves high low = 16 * (high % 16) + low % 16

-- R4.4: the high half by the modes i and j: two address 4i+j, one address 4i+3, branch 12+j
unfoldable pub two_address : ℕ → ℕ → ℕ → ℕ
two_address i j low = halves (4 * i + j) low

unfoldable pub one_address : ℕ → ℕ → ℕ
one_address i low = halves (4 * i + 3) low

unfoldable pub branch : ℕ → ℕ → ℕ
branch j low = halves (12 + j) low

-- R9.9: the operation byte at the modes of the operands (R9.8); a lone operand's mode is given as both. 0 for an operation that makes none
abbrev pub byte_by : Opcode → ℕ → ℕ → ℕ
byte_by NoByte i j = 0
byte_by (ByTwoModes low) i j = two_address i j low
byte_by (ByOneMode low) i j = one_address i low
byte_by (ByBranchMode low) i j = branch j low
byte_by (Fixed byte) i j = byte

abbrev pub operation_byte : Operation → ℕ → ℕ → ℕ
operation_byte o i j = byte_by (traits_of o).opcode i j
