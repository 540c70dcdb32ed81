-- R4.4, R9.8, R9.9: the operation byte of each instruction at all modes, as the manual's Appendix A has it line by line. Operand 1 is direct, by register 1, by register 2, and operand 2 so for each.
use Rattle.std.specs.Prelude.{ℕ, List, [], ◌∷◌}
use Prim.Native.String.{String}
use Rattle.mnemonics.specs.Rows.{letters_of}
use Rattle.operations.specs.Traits.{traits_of}
use Rattle.operations.specs.Codes.{two_address, one_address, branch}
use Rattle.operations.specs.declared.Operation.{Operation}
use Rattle.operations.specs.declared.traits.Opcode.{Opcode}
use Rattle.operations.specs.declared.traits.Opcode.TheVariants.{NoByte, ByTwoModes, ByOneMode, ByBranchMode, Fixed}

-- a chart: a mnemonic and the operation bytes that it may have
pub record Chart : Type 0 where
  pub letters : List ℕ
  pub bytes : List ℕ

abbrev pub chart : String → List ℕ → Chart
chart text bytes = record { letters = letters_of 5 text; bytes = bytes }

unfoldable pub charts : List Chart
charts =
    chart "ZAZ" (0x04 ∷ 0x14 ∷ 0x24 ∷ 0x44 ∷ 0x54 ∷ 0x64 ∷ 0x84 ∷ 0x94 ∷ 0xA4 ∷ [])
    ∷ chart "AZ" (0x06 ∷ 0x16 ∷ 0x26 ∷ 0x46 ∷ 0x56 ∷ 0x66 ∷ 0x86 ∷ 0x96 ∷ 0xA6 ∷ [])
    ∷ chart "SZ" (0x07 ∷ 0x17 ∷ 0x27 ∷ 0x47 ∷ 0x57 ∷ 0x67 ∷ 0x87 ∷ 0x97 ∷ 0xA7 ∷ [])
    ∷ chart "MVX" (0x08 ∷ 0x18 ∷ 0x28 ∷ 0x48 ∷ 0x58 ∷ 0x68 ∷ 0x88 ∷ 0x98 ∷ 0xA8 ∷ [])
    ∷ chart "MVC" (0x0C ∷ 0x1C ∷ 0x2C ∷ 0x4C ∷ 0x5C ∷ 0x6C ∷ 0x8C ∷ 0x9C ∷ 0xAC ∷ [])
    ∷ chart "CLC" (0x0D ∷ 0x1D ∷ 0x2D ∷ 0x4D ∷ 0x5D ∷ 0x6D ∷ 0x8D ∷ 0x9D ∷ 0xAD ∷ [])
    ∷ chart "ALC" (0x0E ∷ 0x1E ∷ 0x2E ∷ 0x4E ∷ 0x5E ∷ 0x6E ∷ 0x8E ∷ 0x9E ∷ 0xAE ∷ [])
    ∷ chart "SLC" (0x0F ∷ 0x1F ∷ 0x2F ∷ 0x4F ∷ 0x5F ∷ 0x6F ∷ 0x8F ∷ 0x9F ∷ 0xAF ∷ [])
    ∷ chart "ITC" (0x0B ∷ 0x1B ∷ 0x2B ∷ 0x4B ∷ 0x5B ∷ 0x6B ∷ 0x8B ∷ 0x9B ∷ 0xAB ∷ [])
    ∷ chart "ED" (0x0A ∷ 0x1A ∷ 0x2A ∷ 0x4A ∷ 0x5A ∷ 0x6A ∷ 0x8A ∷ 0x9A ∷ 0xAA ∷ [])
    ∷ chart "MVI" (0x3C ∷ 0x7C ∷ 0xBC ∷ [])
    ∷ chart "CLI" (0x3D ∷ 0x7D ∷ 0xBD ∷ [])
    ∷ chart "SBN" (0x3A ∷ 0x7A ∷ 0xBA ∷ [])
    ∷ chart "SBF" (0x3B ∷ 0x7B ∷ 0xBB ∷ [])
    ∷ chart "TBN" (0x38 ∷ 0x78 ∷ 0xB8 ∷ [])
    ∷ chart "TBF" (0x39 ∷ 0x79 ∷ 0xB9 ∷ [])
    ∷ chart "ST" (0x34 ∷ 0x74 ∷ 0xB4 ∷ [])
    ∷ chart "L" (0x35 ∷ 0x75 ∷ 0xB5 ∷ [])
    ∷ chart "A" (0x36 ∷ 0x76 ∷ 0xB6 ∷ [])
    ∷ chart "BC" (0xC0 ∷ 0xD0 ∷ 0xE0 ∷ [])
    ∷ chart "TIO" (0xC1 ∷ 0xD1 ∷ 0xE1 ∷ [])
    ∷ chart "SNS" (0x30 ∷ 0x70 ∷ 0xB0 ∷ [])
    ∷ chart "LIO" (0x31 ∷ 0x71 ∷ 0xB1 ∷ [])
    ∷ chart "LA" (0xC2 ∷ 0xD2 ∷ 0xE2 ∷ [])
    ∷ chart "JC" (0xF2 ∷ [])
    ∷ []

-- the operation bytes that the formula gives at all modes
abbrev pub bytes_by : Opcode → List ℕ
bytes_by NoByte = []
bytes_by (ByTwoModes low) =
    two_address 0 0 low ∷ two_address 0 1 low ∷ two_address 0 2 low ∷ two_address 1 0 low ∷ two_address 1 1 low ∷ two_address 1 2 low
    ∷ two_address 2 0 low ∷ two_address 2 1 low ∷ two_address 2 2 low ∷ []
bytes_by (ByOneMode low) = one_address 0 low ∷ one_address 1 low ∷ one_address 2 low ∷ []
bytes_by (ByBranchMode low) = branch 0 low ∷ branch 1 low ∷ branch 2 low ∷ []
bytes_by (Fixed byte) = byte ∷ []

abbrev pub bytes_of : Operation → List ℕ
bytes_of o = bytes_by (traits_of o).opcode
