-- R13.5: pass two, over all names; R16.3, R16.9, R12: the records and the entry of the book.
use Rattle.std.specs.Prelude.{Option, None, ℕ, ◌+◌, List, [], ◌∷◌, map, eqb, Result}
use Rattle.values.specs.Tests.{pick}
use Rattle.values.specs.Values.{only_relocatable}
use Rattle.names.specs.declared.Meaning.{Meaning}
use Rattle.book.specs.Book.{Record, Book}
use Rattle.data.specs.declared.DataType.{DataType}
use Rattle.data.specs.declared.DataType.TheVariants.{Characters, Hexadecimal, Decimal, Address}
use Rattle.data.specs.declared.DataCard.{DataCard}
use Rattle.data.specs.declared.DataCard.TheVariants.{Constant, Reserve}
use Rattle.data.specs.Text.{constant_text}
use Rattle.operations.specs.declared.traits.Role.{Role}
use Rattle.operations.specs.declared.traits.Role.TheVariants.{Starts, Equates, SetsCounter, Ends, Advances}
use Rattle.operations.specs.Traits.{role_of}
use Rattle.forms.specs.declared.Shape.{Shape}
use Rattle.forms.specs.Shape.{of_data}
use Rattle.statements.specs.Statements.{instruction_no, statement_of, bases_after}
use Rattle.encode.specs.Pieces.{Piece, text_of, fields_of, pieces_of}
use Rattle.encode.specs.Pieces.Piece.{plain}
use Rattle.lines.specs.declared.Line.{Line}
use Rattle.lines.specs.declared.Reading.{Reading}
use Rattle.lines.specs.declared.Reading.TheVariants.{Comment, BadName, Statement}
use Rattle.lines.specs.Lines.{reading_of, operand_columns}
use Rattle.passes.specs.declared.Course.{Course}
use Rattle.passes.specs.Cards.{operands_at, value_at, counter_after}
use Rattle.values.specs.declared.Value.{Value}
use Rattle.values.specs.declared.Relocatable.{Relocatable}

-- before the first card
abbrev pub outset : Course
outset = record { counter = 0; bases = record { one = None; two = None } }

-- R13.5: REFUSALS 18 to 23. Those of EQU and ORG were tested by pass one, and come to the same again.

abbrev pub reading_two_no : (ℕ → Option Meaning) → Course → List ℕ → Reading → ℕ
reading_two_no look c s Comment = 0
reading_two_no look c s BadName = 0
reading_two_no look c s (Statement l) = instruction_no l.operation l.shape (operand_columns s l) look c.counter c.bases

unfoldable pub two_no : (ℕ → Option Meaning) → Course → List ℕ → ℕ
two_no look c s = reading_two_no look c s (reading_of s)

-- WHAT A CARD DOES

abbrev pub reading_two_step : (ℕ → Option Meaning) → Course → List ℕ → Reading → Course
reading_two_step look c s Comment = c
reading_two_step look c s BadName = c
reading_two_step look c s (Statement l) = record {
  counter = counter_after look c.counter s l;
  bases = bases_after l.operation (operands_at look c.counter s l) c.bases;
}

unfoldable pub step_two : (ℕ → Option Meaning) → Course → List ℕ → Course
step_two look c s = reading_two_step look c s (reading_of s)

-- no card is refused, or a number of refusal at a card
pub data Checked : Type 0 where
  clean : Checked
  bad : ℕ → ℕ → Checked

-- the cards from card k on
unfoldable pub check_two : (ℕ → Option Meaning) → ℕ → Course → List (List ℕ) → Checked
check_two look k c [] = clean
check_two look k c (s ∷ ss) = pick (eqb (two_no look c s) 0) (check_two look (k + 1) (step_two look c s) ss) (bad (two_no look c s) k)

-- THE BOOK

-- R8.7 to R8.9, R8.12: what a constant's type makes of its pieces: C, X and D are told by the columns, A by its statement
abbrev pub constant_pieces : DataType → List ℕ → List Piece → List Piece
constant_pieces Characters text ps = map plain text
constant_pieces Hexadecimal text ps = map plain text
constant_pieces Decimal text ps = map plain text
constant_pieces Address text ps = ps

-- R8.2: DS makes none
abbrev pub data_pieces : DataCard → DataType → List ℕ → List Piece → List Piece
data_pieces Constant kind text ps = constant_pieces kind text ps
data_pieces Reserve kind text ps = []

abbrev pub shape_pieces : Result Shape ℕ → List ℕ → List Piece → List Piece
shape_pieces x o ps = of_data x (λ d. data_pieces d.card d.kind (constant_text o d) ps) ps

unfoldable pub line_pieces : (ℕ → Option Meaning) → Course → List ℕ → Line → List Piece
line_pieces look c s l =
    shape_pieces l.shape (operand_columns s l)
    (pieces_of (statement_of l.operation l.shape (operand_columns s l) look c.counter c.bases))

abbrev pub reading_pieces : (ℕ → Option Meaning) → Course → List ℕ → Reading → List Piece
reading_pieces look c s Comment = []
reading_pieces look c s BadName = []
reading_pieces look c s (Statement l) = line_pieces look c s l

-- the pieces of a card
unfoldable pub card_pieces : (ℕ → Option Meaning) → Course → List ℕ → List Piece
card_pieces look c s = reading_pieces look c s (reading_of s)

abbrev pub record_of_pieces : ℕ → ℕ → List Piece → Record
record_of_pieces card address ps = record { card = card; address = address; fields = fields_of ps; text = text_of ps }

-- R16.3: a record for each card that makes a byte, in the order of the cards
abbrev pub with_record : ℕ → ℕ → List Piece → List Record → List Record
with_record card address [] rs = rs
with_record card address (p ∷ ps) rs = record_of_pieces card address (p ∷ ps) ∷ rs

unfoldable pub card_records : (ℕ → Option Meaning) → ℕ → Course → List (List ℕ) → List Record
card_records look k c [] = []
card_records look k c (s ∷ ss) = with_record k c.counter (card_pieces look c s) (card_records look (k + 1) (step_two look c s) ss)

-- R12.1, R12.2: END's operand, the entry, or none
abbrev pub entry_by : Option Value → Option Relocatable
entry_by v = only_relocatable v

abbrev pub role_entry : Role → Option Value → Option Relocatable → Option Relocatable
role_entry Starts v rest = rest
role_entry Equates v rest = rest
role_entry SetsCounter v rest = rest
role_entry Ends v rest = entry_by v
role_entry Advances v rest = rest

abbrev pub reading_entry : (ℕ → Option Meaning) → Course → List ℕ → Reading → Option Relocatable → Option Relocatable
reading_entry look c s Comment rest = rest
reading_entry look c s BadName rest = rest
reading_entry look c s (Statement l) rest = role_entry (role_of l.operation) (value_at look c.counter s l) rest

unfoldable pub entry_from : (ℕ → Option Meaning) → Course → List (List ℕ) → Option Relocatable
entry_from look c [] = None
entry_from look c (s ∷ ss) = reading_entry look c s (reading_of s) (entry_from look (step_two look c s) ss)

unfoldable pub book_from : (ℕ → Option Meaning) → List (List ℕ) → Book
book_from look ss = record { entry = entry_from look outset ss; records = card_records look 1 outset ss }
