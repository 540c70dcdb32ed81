-- What a card makes, by the code's own types: its refusal, its text, its entry, its record in bytes.
use Rattle.std.specs.Prelude.{Option, Some, None, ℕ, ◌+◌, ◌-◌, ◌≤◌, List, [], ◌∷◌, map, ◌≡◌, Bool, true, false, length, Result}
use Rattle.values.specs.Words.{part}
use Rattle.names.specs.declared.Meaning.{Meaning}
use Rattle.statements.specs.declared.Statement.{Statement as Stated}
use Rattle.book.specs.Writing.{record_bytes, record_length}
use Rattle.data.specs.declared.DataType.{DataType}
use Rattle.data.specs.declared.DataType.TheVariants.{Characters, Hexadecimal, Decimal, Address}
use Rattle.data.specs.declared.DataCard.{DataCard}
use Rattle.data.specs.declared.DataCard.TheVariants.{Constant, Reserve}
use Rattle.data.specs.declared.Data.{Data}
use Rattle.data.specs.Sizes.{data_size, constant_no}
use Rattle.data.specs.Text.{constant_text}
use Rattle.forms.specs.declared.Shape.{Shape}
use Rattle.forms.specs.Shape.{of_data}
use Rattle.operands.specs.declared.Operands.{Operands}
use Rattle.statements.specs.Statements.{statement_from, bases_after, lone_value}
use Rattle.encode.specs.Pieces.{Piece, text_of, fields_of, pieces_of}
use Rattle.encode.specs.Pieces.Piece.{plain}
use Rattle.lines.specs.declared.Line.{Line}
use Rattle.lines.specs.declared.Reading.{Reading}
use Rattle.lines.specs.declared.Reading.TheVariants.{Comment, BadName, Statement}
use Rattle.lines.specs.Lines.{reading_of}
use Rattle.operations.specs.declared.traits.Role.{Role}
use Rattle.operations.specs.declared.traits.Role.TheVariants.{Starts, Equates, SetsCounter, Ends, Advances}
use Rattle.passes.specs.declared.Course.{Course}
use Rattle.operations.specs.Traits.{role_of}
use Rattle.passes.specs.Cards.{operands_at, counter_by}
use Rattle.passes.specs.Two.{record_of_pieces, entry_by}
use Rattle.making.specs.declared.Text.{Text}
use Rattle.making.specs.declared.Made.{Made}
use Rattle.values.specs.declared.Value.{Value}
use Rattle.values.specs.declared.Relocatable.{Relocatable}

-- WHAT A CARD MAKES

-- behind a line whose expressions came to x, and its only expression to v
abbrev pub course_by : Course → Line → Operands → Option Value → Course
course_by c l x v = record {
  counter = counter_by (role_of l.operation) v c.counter l;
  bases = bases_after l.operation x c.bases;
}

-- C, X and D are told by the columns, A by its statement
abbrev pub text_by : DataType → Data → Stated → Text
text_by Characters d st = Text.Columns d
text_by Hexadecimal d st = Text.Columns d
text_by Decimal d st = Text.Columns d
text_by Address d st = Text.Stated st

-- DS makes none
abbrev pub text_of_data : DataCard → DataType → Data → Stated → Text
text_of_data Constant kind d st = text_by kind d st
text_of_data Reserve kind d st = Text.Stated Stated.NoBytes

abbrev pub text_from : Result Shape ℕ → Stated → Text
text_from x st = of_data x (λ d. text_of_data d.card d.kind d st) (Text.Stated st)

-- the pieces of a text, over the columns of the operand
abbrev pub text_pieces : Text → List ℕ → List Piece
text_pieces (Text.Columns d) o = map plain (constant_text o d)
text_pieces (Text.Stated st) o = pieces_of st

-- the entry where END was met, else another
abbrev pub entry_or : Option (Option Relocatable) → Option Relocatable → Option Relocatable
entry_or None rest = rest
entry_or (Some e) rest = e

abbrev pub sought_by : Role → Option Value → Option (Option Relocatable)
sought_by Starts v = None
sought_by Equates v = None
sought_by SetsCounter v = None
sought_by Ends v = Some (entry_by v)
sought_by Advances v = None

-- a card without a statement is not refused, and makes nothing
abbrev pub made_none : Course → Made
made_none c = record { text = Text.Stated Stated.NoBytes; from = 0; end = 0; entry = None; course = c }

abbrev pub made_by : Course → Line → Operands → Made
made_by c l x = record {
  text = text_from l.shape (statement_from l.operation x c.counter c.bases);
  from = l.operand;
  end = l.end;
  entry = sought_by (role_of l.operation) (lone_value x);
  course = course_by c l x (lone_value x);
}

abbrev pub reading_made : (ℕ → Option Meaning) → Course → List ℕ → Reading → Made
reading_made look c s Comment = made_none c
reading_made look c s BadName = made_none c
reading_made look c s (Statement l) = made_by c l (operands_at look c.counter s l)

unfoldable pub card_made : (ℕ → Option Meaning) → Course → List ℕ → Made
card_made look c s = reading_made look c s (reading_of s)

-- SIZES

abbrev pub text_length : Text → ℕ
text_length (Text.Columns d) = data_size d
text_length (Text.Stated st) = length (text_of (pieces_of st))

abbrev pub text_fields : Text → List ℕ
text_fields (Text.Columns d) = []
text_fields (Text.Stated st) = fields_of (pieces_of st)

-- RECORDS

-- how many bytes the record of what a card makes has
abbrev pub made_length : Made → ℕ
made_length x = record_length (text_length x.text) (length (text_fields x.text))

-- the record of a card in bytes, if it makes one
abbrev pub card_record : ℕ → ℕ → List Piece → List ℕ
card_record card address [] = []
card_record card address (p ∷ ps) = record_bytes (record_of_pieces card address (p ∷ ps))

-- the record of a card with columns s that makes x
abbrev pub made_record : ℕ → ℕ → Made → List ℕ → List ℕ
made_record card address x s = card_record card address (text_pieces x.text (part s x.from (x.end - x.from)))

-- the bytes that are laid: none where the pass does not write
abbrev pub laid_if : Bool → List ℕ → List ℕ
laid_if true bytes = bytes
laid_if false bytes = []

-- what is known of a text, and of what a card makes, where the sizes of DC are good
abbrev pub TextFits : Text → List ℕ → Type 0
TextFits (Text.Columns d) o = (constant_no d ≡ 0) × (d.value + d.count ≤ length o)
TextFits (Text.Stated st) o = length (text_of (pieces_of st)) ≤ 256

pub record MadeFits (x : Made) (s : List ℕ) : Type 0 where
  pub from : x.from ≤ x.end
  pub end : x.end ≤ length s
  pub text : TextFits x.text (part s x.from (x.end - x.from))
