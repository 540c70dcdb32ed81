-- R20.1: one table of rows, each with what is written, the names, and what must come of it.
use Rattle.std.specs.Prelude.{ℕ, ◌-◌, List, [], ◌∷◌, ◌++◌, map, length, replicate, eqb, Result, Ok, Err}
use Prim.Native.String.{String}
use Rattle.values.specs.Tests.{pick}
use Rattle.values.specs.Words.{part}
use Rattle.values.specs.declared.Value.{Value}
use Rattle.letters.specs.Text.{bytes}
use Rattle.terms.specs.Names.{name_number}
use Rattle.names.specs.declared.Name.{Name}
use Rattle.names.specs.Names.{find}
use Rattle.values.specs.declared.Wanted.TheVariants.{Any}
use Rattle.expressions.specs.Form.{form_of, form_no, expression_at}
use Rattle.expressions.specs.Value.{evaluated, refusal_for}
use Rattle.book.specs.Book.{Record}
use Rattle.book.specs.Writing.{book_bytes}
use Rattle.load.specs.Load.{loading}
use Rattle.passes.specs.Assembly.{Translated, assembled}
use Rattle.passes.specs.Assembly.Translated.{made, refused as not_made}
use Rattle.expressions.specs.declared.Fault.{Fault}

-- what comes of a row
pub data Answer : Type 0 where
  absolute : ℕ → Answer
  relocatable : ℕ → Answer
  refused : ℕ → Answer
  refused_at : ℕ → ℕ → Answer
  text : List ℕ → List ℕ → Answer
  stored : List ℕ → Answer

-- an expression, over names; card k of a deck; two bytes of storage from a place on, a deck's book loaded with a displacement
pub data Row : Type 0 where
  expression : String → List Name → Answer → Row
  card : ℕ → List String → Answer → Row
  loaded : List String → ℕ → ℕ → Answer → Row

abbrev pub expected : Row → Answer
expected (expression written names answer) = answer
expected (card k deck answer) = answer
expected (loaded deck d from answer) = answer

-- EXPRESSIONS

abbrev pub value_answer : Value → Answer
value_answer (Value.Absolute a) = absolute a.0
value_answer (Value.Relocatable a) = relocatable a.0

abbrev pub answer_of : Result Value Fault → Answer
answer_of (Ok v) = value_answer v
answer_of (Err why) = refused (refusal_for Any (Err why))

-- 15 where the text goes on behind the expression
abbrev pub whole_of : ℕ → Result ℕ ℕ → Answer → Answer
whole_of n (Ok q) answer = pick (eqb q n) answer (refused 15)
whole_of n (Err q) answer = refused (form_no (Err q))

abbrev pub expression_answer : List ℕ → List Name → Answer
expression_answer s names = whole_of (length s) (form_of (expression_at s 0)) (answer_of (evaluated (find names) 0 (expression_at s 0)))

-- CARDS

-- the statement columns of a card of 80: blanks on the right
abbrev pub columns : String → List ℕ
columns written = bytes written ++ replicate (71 - length (bytes written)) 0x20

-- the record of card k
unfoldable pub record_answer : ℕ → List Record → Answer
record_answer k [] = text [] []
record_answer k (r ∷ rs) = pick (eqb r.card k) (text r.text r.fields) (record_answer k rs)

abbrev pub card_answer : ℕ → Translated → Answer
card_answer k (made names b) = record_answer k b.records
card_answer k (not_made number at) = refused_at number at

-- two bytes of a storage of 258 bytes that was all 55
abbrev pub load_answer : Translated → ℕ → ℕ → Answer
load_answer (made names b) d from = stored (part (loading (book_bytes b) (record { 0 = d }) (replicate 258 0x55)).storage from 2)
load_answer (not_made number at) d from = refused_at number at

unfoldable pub comes_to : Row → Answer
comes_to (expression written names answer) = expression_answer (bytes written) names
comes_to (card k deck answer) = card_answer k (assembled (map columns deck))
comes_to (loaded deck d from answer) = load_answer (assembled (map columns deck)) d from

-- names as they are written in a row: absolute or relocatable, of length 1
abbrev pub number_of : String → ℕ
number_of name = name_number (bytes name) 0 (length (bytes name))

abbrev pub is_absolute : String → ℕ → Name
is_absolute name n = record { number = number_of name; value = Value.Absolute (record { 0 = n }); length = 1 }

abbrev pub is_relocatable : String → ℕ → Name
is_relocatable name n = record { number = number_of name; value = Value.Relocatable (record { 0 = n }); length = 1 }

unfoldable pub rows : List Row
rows =
    card 3 ("FINAL START X'131B'" ∷ "DONE EQU X'BA'" ∷ " ZAZ FINAL(5),DONE(1,1)" ∷ " END" ∷ []) (text (0x14 ∷ 0x40 ∷ 0x13 ∷ 0x1B ∷ 0xBA ∷ []) (2 ∷ []))
    ∷ expression "C'A'''" [] (absolute 0xC17D)
    ∷ card 2 (" START 0" ∷ " DC C'A'''" ∷ " END" ∷ []) (text (0xC1 ∷ 0x7D ∷ []) [])
    ∷ expression "A-Y+X" (is_absolute "A" 50 ∷ is_relocatable "Y" 25 ∷ is_relocatable "X" 10 ∷ []) (absolute 35)
    ∷ expression "A+F*G-D+B" (is_relocatable "A" 3 ∷ is_absolute "F" 1 ∷ is_absolute "G" 4 ∷ is_relocatable "D" 5 ∷ is_relocatable "B" 2 ∷ []) (relocatable 4)
    ∷ expression "0-1" [] (absolute 0xFFFF)
    ∷ expression "0-65535-1" [] (absolute 0)
    ∷ expression "0-65535-2" [] (refused 20)
    ∷ expression "65535+1" [] (refused 20)
    ∷ expression "65535*256-65535*255" [] (absolute 65535)
    ∷ expression "65535*257-65535*256" [] (refused 20)
    ∷ card 2 (" START 0" ∷ " MVC 0(256),0" ∷ " END" ∷ []) (text (0x0C ∷ 0xFF ∷ 0 ∷ 0 ∷ 0 ∷ 0 ∷ []) [])
    ∷ card 2 (" START 0" ∷ " MVC 0(257),0" ∷ " END" ∷ []) (refused_at 21 2)
    ∷ card 2 (" START 0" ∷ " ZAZ 0(31),0(16)" ∷ " END" ∷ []) (text (0x04 ∷ 0xFF ∷ 0 ∷ 0 ∷ 0 ∷ 0 ∷ []) [])
    ∷ card 2 (" START 0" ∷ " ZAZ 0(15),0(16)" ∷ " END" ∷ []) (refused_at 21 2)
    ∷ card 3 ("S START 1" ∷ " USING S,1" ∷ " MVI S+255(1),0" ∷ " END" ∷ []) (text (0x7C ∷ 0 ∷ 0xFF ∷ []) [])
    ∷ card 3 ("S START 1" ∷ " USING S,1" ∷ " MVI S+256(1),0" ∷ " END" ∷ []) (refused_at 23 3)
    ∷ card 3 ("S START 1" ∷ " USING S,1" ∷ " MVI S-1(1),0" ∷ " END" ∷ []) (refused_at 23 3)
    ∷ card 2 (" START 0" ∷ " J NEXT" ∷ "NEXT B NEXT" ∷ " END" ∷ []) (text (0xF2 ∷ 0x87 ∷ 0 ∷ []) [])
    ∷ card 2 (" START 0" ∷ " J *" ∷ " END" ∷ []) (refused_at 23 2)
    ∷ loaded (" START 0" ∷ "X DC AL2(X)" ∷ " ORG X-1" ∷ " DC XL2'00FF'" ∷ " END" ∷ []) 256 256 (stored (0 ∷ 0xFF ∷ []))
    ∷ []
