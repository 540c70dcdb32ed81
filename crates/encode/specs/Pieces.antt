-- R9.5, R11.9, R16.9: a card's text as a list of pieces: text and field list are read off the same list.
use Rattle.std.specs.Prelude.{ℕ, zero, suc, ◌+◌, ◌/◌, ◌%◌, List, [], ◌∷◌, ◌++◌, eqb}
use Rattle.values.specs.Tests.{pick}
use Rattle.values.specs.Words.{two_bytes}
use Rattle.values.specs.declared.Value.{Value}
use Rattle.values.specs.declared.Value.TheVariants.{Absolute, Relocatable}
use Rattle.values.specs.Values.{amount_of}
use Rattle.operations.specs.declared.Operation.TheVariants.{Jump}
use Rattle.operations.specs.Codes.{operation_byte}
use Rattle.places.specs.declared.Operand.{Operand}
use Rattle.places.specs.declared.Operand.TheVariants.{Direct, Indexed}
use Rattle.statements.specs.declared.Statement.{Statement}

-- a byte that is the same wherever the program lies, or a value of two bytes
pub data Piece : Type 0 where
  plain : ℕ → Piece
  value : Value → Piece

-- THE TEXT

abbrev pub piece_text : Piece → List ℕ
piece_text (plain b) = b ∷ []
piece_text (value v) = two_bytes (amount_of v)

unfoldable pub text_of : List Piece → List ℕ
text_of [] = []
text_of (p ∷ ps) = piece_text p ++ text_of ps

-- R11.9, R16.9, R21.4: THE FIELDS: the two-byte fields with a relocatable value, each once, and no other place

abbrev pub piece_size : Piece → ℕ
piece_size (plain b) = 1
piece_size (value v) = 2

abbrev pub field_of : ℕ → Value → List ℕ → List ℕ
field_of at (Absolute a) os = os
field_of at (Relocatable a) os = at ∷ os

abbrev pub piece_field : ℕ → Piece → List ℕ → List ℕ
piece_field at (plain b) os = os
piece_field at (value v) os = field_of at v os

-- R11.10: the offsets of the relocatable values among the pieces from an offset on
unfoldable pub offsets_from : ℕ → List Piece → List ℕ
offsets_from at [] = []
offsets_from at (p ∷ ps) = piece_field at p (offsets_from (at + piece_size p) ps)

abbrev pub fields_of : List Piece → List ℕ
fields_of ps = offsets_from 0 ps

-- STATEMENTS

-- R9.8: an operand's mode
abbrev pub mode_of : Operand → ℕ
mode_of (Direct v) = 0
mode_of (Indexed v r displacement) = r

-- R9.6, R11.9: a direct operand is a value of two bytes; the byte of an indexed one is no field, whatever the kind of its value
abbrev pub operand_pieces : Operand → List Piece
operand_pieces (Direct v) = value v ∷ []
operand_pieces (Indexed v r displacement) = plain displacement ∷ []

-- R8.12: an address constant by its length: the low byte, the value itself, or the value behind a zero byte
unfoldable pub address_pieces : ℕ → Value → List Piece
address_pieces m v =
    pick (eqb m 1) (plain (amount_of v % 256) ∷ [])
    (pick (eqb m 3) (plain 0 ∷ plain (amount_of v / 256 % 256) ∷ plain (amount_of v % 256) ∷ []) (value v ∷ []))

-- pieces n times
unfoldable pub copied : ℕ → List Piece → List Piece
copied zero ps = []
copied (suc n) ps = ps ++ copied n ps

-- R9.5, R8.13: the operation byte, Q, and the operands in their order; a jump's operation byte, Q and byte; every copy of an address constant
unfoldable pub pieces_of : Statement → List Piece
pieces_of (Statement.TwoAddresses op q a b) = plain (operation_byte op (mode_of a) (mode_of b)) ∷ plain q ∷ (operand_pieces a ++ operand_pieces b)
pieces_of (Statement.OneAddress op q a) = plain (operation_byte op (mode_of a) (mode_of a)) ∷ plain q ∷ operand_pieces a
pieces_of (Statement.Jump q byte) = plain (operation_byte Jump 0 0) ∷ plain q ∷ plain byte ∷ []
pieces_of (Statement.AddressConstants copies length v) = copied copies (address_pieces length v)
pieces_of Statement.NoBytes = []
