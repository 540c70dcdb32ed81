-- R2.4 to R2.6, R4.1, R9.1: a card by its statement columns: a comment, a bad name, or a line with its name, its operation and the shape of its operand.
use Rattle.std.specs.Prelude.{ℕ, ◌-◌, List, Result, Ok, Err}
use Rattle.values.specs.Words.{part}
use Rattle.cards.specs.declared.Fields.{Fields}
use Rattle.cards.specs.declared.Card.{Card}
use Rattle.cards.specs.declared.Card.TheVariants.{Comment as CardComment, BadName as CardBadName, Statement as CardStatement}
use Rattle.cards.specs.Fields.{card_of}
use Rattle.mnemonics.specs.Rows.{operation_at}
use Rattle.mnemonics.specs.Model10.{model10}
use Rattle.forms.specs.declared.Shape.{Shape}
use Rattle.forms.specs.Shape.{shape_of}
use Rattle.lines.specs.declared.Line.{Line}
use Rattle.lines.specs.declared.Reading.{Reading}
use Rattle.lines.specs.declared.Reading.TheVariants.{Comment, BadName, Statement}

-- the operation of the word that stands for it, and the shape of that operation's operand, whose columns are a list of their own
unfoldable pub line_of : List ℕ → Fields → Line
line_of s f =
    let operation = operation_at model10 s f.operation f.behind in
    record {
      name = f.name;
      operation = operation;
      shape = shape_of operation (part s f.operand (f.end - f.operand));
      operand = f.operand;
      end = f.end;
    }

abbrev pub reading_from : List ℕ → Card → Reading
reading_from s CardComment = Comment
reading_from s CardBadName = BadName
reading_from s (CardStatement f) = Statement (line_of s f)

unfoldable pub reading_of : List ℕ → Reading
reading_of s = reading_from s (card_of s)

-- the columns of a line's operand
abbrev pub operand_columns : List ℕ → Line → List ℕ
operand_columns s l = part s l.operand (l.end - l.operand)

-- R14.1: 15, not of the form
abbrev pub shape_no : Result Shape ℕ → ℕ
shape_no (Err q) = 15
shape_no (Ok x) = 0
