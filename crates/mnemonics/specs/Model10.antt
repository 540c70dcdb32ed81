-- R4.3 to R4.5: the operations of a Model 10: the assembler's own, the instructions by their kinds, the extended mnemonics.
use Rattle.std.specs.Prelude.{List, [], ◌∷◌, ◌++◌}
use Rattle.mnemonics.specs.Rows.{Row, row}
use Rattle.operations.specs.declared.Operation.TheVariants.{Start, Equ, Org, Dc, Ds, Using, Drop, End, TwoLengths, OneLength, HalfBytes, HalfBytesOf, OneAddress, Branch, LoadAddress, BranchOn, Jump, JumpOn}

-- R4.3: the assembler's own
unfoldable pub own_operations : List Row
own_operations =
    row "START" Start ∷ row "EQU" Equ ∷ row "ORG" Org ∷ row "DC" Dc ∷ row "DS" Ds ∷ row "USING" Using ∷ row "DROP" Drop ∷
    row "END" End ∷ []

-- R4.4: two addresses, with the low half; ZAZ, AZ and SZ have a length on each operand, MVX has an item
unfoldable pub two_addresses : List Row
two_addresses =
    row "ZAZ" (TwoLengths 0x4) ∷ row "AZ" (TwoLengths 0x6) ∷ row "SZ" (TwoLengths 0x7) ∷ row "MVX" HalfBytes ∷
    row "ED" (OneLength 0xA) ∷ row "ITC" (OneLength 0xB) ∷ row "MVC" (OneLength 0xC) ∷ row "CLC" (OneLength 0xD) ∷
    row "ALC" (OneLength 0xE) ∷ row "SLC" (OneLength 0xF) ∷ []

-- one address
unfoldable pub one_addresses : List Row
one_addresses =
    row "SNS" (OneAddress 0x0) ∷ row "LIO" (OneAddress 0x1) ∷ row "ST" (OneAddress 0x4) ∷ row "L" (OneAddress 0x5) ∷
    row "A" (OneAddress 0x6) ∷ row "TBN" (OneAddress 0x8) ∷ row "TBF" (OneAddress 0x9) ∷ row "SBN" (OneAddress 0xA) ∷
    row "SBF" (OneAddress 0xB) ∷ row "MVI" (OneAddress 0xC) ∷ row "CLI" (OneAddress 0xD) ∷ []

-- R4.4: branch; LA's Q is a register
unfoldable pub branches : List Row
branches =
    row "BC" (Branch 0x0) ∷ row "TIO" (Branch 0x1) ∷ row "LA" LoadAddress ∷ []

-- jump
unfoldable pub jumps : List Row
jumps =
    row "JC" Jump ∷ []

-- R4.5: extended moves with the item of MVX
unfoldable pub extended_moves : List Row
extended_moves =
    row "MZZ" (HalfBytesOf 0x00) ∷ row "MNZ" (HalfBytesOf 0x02) ∷ row "MZN" (HalfBytesOf 0x01) ∷ row "MNN" (HalfBytesOf 0x03) ∷ []

-- R4.5: extended branches with the Q code of BC
unfoldable pub extended_branches : List Row
extended_branches =
    row "B" (BranchOn 0x87) ∷ row "BH" (BranchOn 0x84) ∷ row "BL" (BranchOn 0x82) ∷ row "BE" (BranchOn 0x81) ∷
    row "BNH" (BranchOn 0x04) ∷ row "BNL" (BranchOn 0x02) ∷ row "BNE" (BranchOn 0x01) ∷ row "BOZ" (BranchOn 0x88) ∷
    row "BOL" (BranchOn 0xA0) ∷ row "BNOZ" (BranchOn 0x08) ∷ row "BNOL" (BranchOn 0x20) ∷ row "BT" (BranchOn 0x10) ∷
    row "BF" (BranchOn 0x90) ∷ row "BP" (BranchOn 0x84) ∷ row "BM" (BranchOn 0x82) ∷ row "BZ" (BranchOn 0x81) ∷
    row "BNP" (BranchOn 0x04) ∷ row "BNM" (BranchOn 0x02) ∷ row "BNZ" (BranchOn 0x01) ∷ []

-- R4.5: extended jumps with the Q code of JC
unfoldable pub extended_jumps : List Row
extended_jumps =
    row "J" (JumpOn 0x87) ∷ row "JH" (JumpOn 0x84) ∷ row "JL" (JumpOn 0x82) ∷ row "JE" (JumpOn 0x81) ∷
    row "JNH" (JumpOn 0x04) ∷ row "JNL" (JumpOn 0x02) ∷ row "JNE" (JumpOn 0x01) ∷ row "JOZ" (JumpOn 0x88) ∷
    row "JOL" (JumpOn 0xA0) ∷ row "JNOZ" (JumpOn 0x08) ∷ row "JNOL" (JumpOn 0x20) ∷ row "JT" (JumpOn 0x10) ∷
    row "JF" (JumpOn 0x90) ∷ row "JP" (JumpOn 0x84) ∷ row "JM" (JumpOn 0x82) ∷ row "JZ" (JumpOn 0x81) ∷
    row "JNP" (JumpOn 0x04) ∷ row "JNM" (JumpOn 0x02) ∷ row "JNZ" (JumpOn 0x01) ∷ []

-- all of them
unfoldable pub model10 : List Row
model10 =
    own_operations
    ++ (two_addresses ++ (one_addresses ++ (branches ++ (jumps ++ (extended_moves ++ (extended_branches ++ extended_jumps))))))
