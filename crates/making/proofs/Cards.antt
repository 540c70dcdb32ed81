-- What a card makes is what pass two says of it; and it fits, where the card is sound.
use Prim.Native.Nat.{ℕ, ◌+◌, ◌-◌, ◌≤◌}
use mathlib.Core.List.{List, ◌∷◌}
use mathlib.Core.Path.{◌≡◌, refl, sym, ap}
use mathlib.Core.Bool.{Bool, true, false}
use native.Mathlib.Omega.{arith}
use lib.ListN.{length}
use lib.Dec.{leb, eqb}
use borrow.Author.Tests.{eqb-true, eqb-false, leb-true}
use Rattle.values.specs.Tests.{pick}
use Rattle.values.specs.Words.{part}
use Rattle.values.proofs.Laws.{both_true}
use Rattle.names.specs.declared.Meaning.{Meaning}
use Rattle.expressions.specs.Form.{expression_at}
use Rattle.expressions.specs.Value.{evaluated, value_in}
use Rattle.operations.specs.declared.Operation.{Operation}
use Rattle.operations.specs.declared.traits.Role.{Role}
use Rattle.operations.specs.declared.traits.Role.TheVariants.{Starts, Equates, SetsCounter, Ends, Advances}
use Rattle.operations.specs.declared.traits.Use.{Use}
use Rattle.operations.specs.declared.traits.Use.TheVariants.{Jumps, Registers}
use Rattle.operations.specs.Traits.{role_of, use_of}
use Rattle.data.specs.declared.DataType.{DataType}
use Rattle.data.specs.declared.DataType.TheVariants.{Characters, Hexadecimal, Decimal, Address}
use Rattle.data.specs.declared.DataCard.{DataCard}
use Rattle.data.specs.declared.DataCard.TheVariants.{Constant, Reserve}
use Rattle.data.specs.declared.Data.{Data}
use Rattle.data.specs.Sizes.{longest, data_size, constant_no, data_no_by, data_no}
use Rattle.data.specs.Text.{constant_text}
use Rattle.data.proofs.Fine.{fits-length, constant-fine}
use Rattle.forms.specs.declared.Shape.{Shape}
use Rattle.forms.specs.declared.Shape.TheVariants.{StartAt, Expression, Pair, Target, TwoAddresses, AddressAndCode, LoneAddress}
use Rattle.forms.specs.Size.{size_of}
use Rattle.forms.proofs.Laws.{DataIn, ShapeIn, shape_in}
use Rattle.operands.specs.declared.Operands.{Operands}
use Rattle.operands.specs.Operands.{address_of, by_type, by_card, constant_of, operands_of}
use Rattle.places.specs.declared.Bases.{Bases}
use Rattle.places.specs.declared.Operand.{Operand}
use Rattle.places.specs.declared.Operand.TheVariants.{Direct, Indexed}
use Rattle.places.specs.Codes.{code_of}
use Rattle.places.specs.Places.{operand_of, operand_size}
use Rattle.statements.specs.declared.Statement.{Statement as Stated}
use Rattle.statements.specs.Statements.{with_code, with_operand, two_of, one_of, jump_of, constants_of, statement_from}
use Rattle.encode.specs.Pieces.{text_of, pieces_of}
use Rattle.encode.specs.Steps.{constant_size}
use Rattle.encode.proofs.Steps.{two_size, one_size, jump-text, constants_size_lem, none-text}
use Rattle.lines.specs.declared.Line.{Line}
use Rattle.lines.specs.declared.Reading.{Reading}
use Rattle.lines.specs.declared.Reading.TheVariants.{Comment, BadName, Statement}
use Rattle.lines.specs.Lines.{reading_of, operand_columns}
use Rattle.lines.proofs.Laws.{line-within, line_shape}
use Rattle.passes.specs.declared.Course.{Course}
use Rattle.passes.specs.Cards.{operands_at, value_at, counter_after}
use Rattle.passes.specs.One.{sizes_no}
use Rattle.passes.specs.Sound.{sound_line, sound_reading}
use Rattle.passes.specs.Two.{data_pieces, shape_pieces, line_pieces, reading_pieces, card_pieces, reading_two_step, step_two, role_entry, reading_entry, entry_from}
use Rattle.passes.proofs.Counter.{counter-most}
use Rattle.making.specs.Steps.{text_of_data, text_from, text_pieces, entry_or, sought_by, reading_made, card_made, TextFits, MadeFits}
use Rattle.std.specs.Prelude.{Option, Some, None, Result, Ok, Err}
use Rattle.values.specs.declared.Value.{Value}
use Rattle.values.specs.declared.Relocatable.{Relocatable}
use Rattle.values.specs.declared.refusals.Refusal.{Refusal}

-- WHAT IT IS

pieces_of_lem : (c : DataCard) (k : DataType) (d : Data) (o : List ℕ) (st : Stated) → data_pieces c k (constant_text o d) (pieces_of st) ≡ text_pieces (text_of_data c k d st) o
unfolding pieces_of
pieces_of_lem Reserve k d o st = refl
pieces_of_lem Constant Characters d o st = refl
pieces_of_lem Constant Hexadecimal d o st = refl
pieces_of_lem Constant Decimal d o st = refl
pieces_of_lem Constant Address d o st = refl

pieces-from : (x : Result Shape ℕ) (o : List ℕ) (st : Stated) → shape_pieces x o (pieces_of st) ≡ text_pieces (text_from x st) o
pieces-from (Err q) o st = refl
pieces-from (Ok Shape.Nothing) o st = refl
pieces-from (Ok (StartAt v)) o st = refl
pieces-from (Ok Expression) o st = refl
pieces-from (Ok (Pair p)) o st = refl
pieces-from (Ok Target) o st = refl
pieces-from (Ok (TwoAddresses a b)) o st = refl
pieces-from (Ok (AddressAndCode a p)) o st = refl
pieces-from (Ok (LoneAddress a)) o st = refl
pieces-from (Ok (Shape.Data d)) o st = pieces_of_lem d.card d.kind d o st

module _ (look : ℕ → Option Meaning) (c : Course) (s : List ℕ) where
  pub made-pieces : card_pieces look c s ≡ text_pieces (card_made look c s).text (part s (card_made look c s).from ((card_made look c s).end - (card_made look c s).from))
  unfolding card_pieces line_pieces card_made pieces_of
  made-pieces = go (reading_of s)
    where
      go : (x : Reading) → reading_pieces look c s x ≡ text_pieces (reading_made look c s x).text (part s (reading_made look c s x).from ((reading_made look c s x).end - (reading_made look c s x).from))
      go Comment = refl
      go BadName = refl
      go (Statement l) = pieces-from l.shape (operand_columns s l) (statement_from l.operation (operands_at look c.counter s l) c.counter c.bases)

  pub made_course : (card_made look c s).course ≡ step_two look c s
  unfolding card_made step_two counter_after
  made_course = go (reading_of s)
    where
      go : (x : Reading) → (reading_made look c s x).course ≡ reading_two_step look c s x
      go Comment = refl
      go BadName = refl
      go (Statement l) = refl

  pub made-entry : (ss : List (List ℕ)) → entry_from look c (s ∷ ss) ≡ entry_or (card_made look c s).entry (entry_from look (step_two look c s) ss)
  unfolding entry_from card_made
  made-entry ss = go (reading_of s) (entry_from look (step_two look c s) ss)
    where
      by : (r : Role) (v : Option Value) (rest : Option Relocatable) → role_entry r v rest ≡ entry_or (sought_by r v) rest
      by Starts v rest = refl
      by Equates v rest = refl
      by SetsCounter v rest = refl
      by Ends v rest = refl
      by Advances v rest = refl

      go : (x : Reading) (rest : Option Relocatable) → reading_entry look c s x rest ≡ entry_or (reading_made look c s x).entry rest
      go Comment rest = refl
      go BadName rest = refl
      go (Statement l) rest = by (role_of l.operation) (value_at look c.counter s l) rest

-- SIZES

-- a line that is sound has good sizes of DC and DS, and room in storage
pub line-sound : (l : Line) → sound_line l ≡ true → (sizes_no l.shape ≡ 0) × (size_of l.operation l.shape ≤ 65536)
line-sound l e =
    let (a, b) = both_true (eqb (sizes_no l.shape) 0) (leb (size_of l.operation l.shape) 65536) e in
    (eqb-true _ _ a, leb-true _ _ b)

-- a card that is sound moves the counter by no more than 65536
pub step-most : (look : ℕ → Option Meaning) (c : Course) (s : List ℕ) → sound_reading (reading_of s) ≡ true → (step_two look c s).counter ≤ c.counter + 65536
unfolding step_two
step-most look c s e = go (reading_of s) refl e
  where
    go : (x : Reading) → reading_of s ≡ x → sound_reading x ≡ true → (reading_two_step look c s x).counter ≤ c.counter + 65536
    go Comment q e = omega arith
    go BadName q e = omega arith
    go (Statement l) q e = let w = (line-sound l e).1 in counter-most look c.counter s l q (c.counter + 65536) (omega arith) (omega arith)

operand-most : (x : Operand) → operand_size x ≤ 2
operand-most (Direct v) = omega arith
operand-most (Indexed v r d) = omega arith

abbrev Short : Stated → Type 0
Short st = length (text_of (pieces_of st)) ≤ 256

-- an instruction has at most six bytes
two-short : (op : Operation) (q : ℕ) (a b : Operand) → Short (Stated.TwoAddresses op q a b)
two-short op q a b = omega (arith, two_size op q a b, operand-most a, operand-most b)

one-short : (op : Operation) (q : ℕ) (a : Operand) → Short (Stated.OneAddress op q a)
one-short op q a = omega (arith, one_size op q a, operand-most a)

none-short : Short Stated.NoBytes
none-short = omega (arith, ap length none-text)

-- what is short with every byte, operand or value is short without one too
code-short : (x : Result (Option ℕ) Refusal) (f : ℕ → Stated) → ((q : ℕ) → Short (f q)) → Short (with_code x f)
code-short (Ok (Some b)) f h = h b
code-short (Err r) f h = none-short
code-short (Ok None) f h = none-short

operand_short : (x : Result (Option Operand) Refusal) (f : Operand → Stated) → ((a : Operand) → Short (f a)) → Short (with_operand x f)
operand_short (Ok (Some a)) f h = h a
operand_short (Err r) f h = none-short
operand_short (Ok None) f h = none-short

two_parts : (op : Operation) (code : Result (Option ℕ) Refusal) (first second : Result (Option Operand) Refusal) → Short (two_of op code first second)
two_parts op code first second = code-short code _ (λ q. operand_short first _ (λ x. operand_short second _ (λ y. two-short op q x y)))

one_parts : (op : Operation) (code : Result (Option ℕ) Refusal) (first : Result (Option Operand) Refusal) → Short (one_of op code first)
one_parts op code first = code-short code _ (λ q. operand_short first _ (λ x. one-short op q x))

jump-short : (u : Use) (code reach : Result (Option ℕ) Refusal) → Short (jump_of u code reach)
jump-short Jumps code reach = code-short code _ (λ q. code-short reach _ (λ b. omega (arith, ap length (jump-text q b))))
jump-short Registers code reach = none-short
jump-short Use.Nothing code reach = none-short

-- R8.5, R8.11: every copy has m bytes, and all together are at most 256
constants_short : (d : Data) (v : Option Value) → d.kind ≡ Address → constant_no d ≡ 0 → Short (constants_of d.copies d.length v)
unfolding data_size
constants_short d None k e = none-short
constants_short d (Some v) k e =
    let f = constant-fine d e in
    let l = fits-length d f.fits in
    let most : longest d.kind ≡ 3 = ap longest k in
    let size = f.size in
    let same = each d.length l.0 (omega arith) in
    rw (constants_size_lem d.copies d.length v, same) size
  where
    each : (m : ℕ) → 1 ≤ m → m ≤ 3 → constant_size m ≡ m
    each m a b = go (eqb m 1) refl (eqb m 3) refl
      where
        go : (x : Bool) → eqb m 1 ≡ x → (y : Bool) → eqb m 3 ≡ y → pick x 1 (pick y 3 2) ≡ m
        go true e y f = sym (eqb-true m 1 e)
        go false e true f = sym (eqb-true m 3 f)
        go false e false f = omega (arith, eqb-false m 1 e, eqb-false m 3 f)

module _ (look : ℕ → Option Meaning) (here : ℕ) (bases : Bases) (op : Operation) (o : List ℕ) where
  data_fits : (d : Data) → data_no d ≡ 0 → DataIn o d.card d → TextFits (text_of_data d.card d.kind d (statement_from op (constant_of look here o d) here bases)) o
  unfolding statement_from
  data_fits d e w = go d.card d.kind refl e w
    where
      go : (c : DataCard) (k : DataType) → d.kind ≡ k → data_no_by c d ≡ 0 → DataIn o c d
          → TextFits (text_of_data c k d (statement_from op (by_card c (by_type k (Operands.AddressConstants d.copies d.length (evaluated look here (expression_at o d.value))))) here bases)) o
      go Reserve k q e w = none-short
      go Constant Characters q e w = let inside = w.1 in (e, omega arith)
      go Constant Hexadecimal q e w = let inside = w.1 in (e, omega arith)
      go Constant Decimal q e w = let inside = w.1 in (e, omega arith)
      go Constant Address q e w = constants_short d (value_in (evaluated look here (expression_at o d.value))) q e

  text-fits : (x : Result Shape ℕ) → sizes_no x ≡ 0 → ShapeIn o x → TextFits (text_from x (statement_from op (operands_of look here o x) here bases)) o
  unfolding operands_of statement_from
  text-fits (Err q) e w = none-short
  text-fits (Ok Shape.Nothing) e w = none-short
  text-fits (Ok (StartAt v)) e w = none-short
  text-fits (Ok Expression) e w = jump-short (use_of op) _ _
  text-fits (Ok (Pair p)) e w = jump-short (use_of op) _ _
  text-fits (Ok Target) e w = jump-short (use_of op) _ _
  text-fits (Ok (TwoAddresses a b)) e w =
      let x = address_of look here o a in
      let y = address_of look here o b in
      two_parts op (code_of op (Operands.TwoAddresses x y)) (operand_of bases x) (operand_of bases y)
  text-fits (Ok (AddressAndCode a p)) e w =
      let x = address_of look here o a in
      one_parts op (code_of op (Operands.AddressAndCode x (evaluated look here (expression_at o p)))) (operand_of bases x)
  text-fits (Ok (LoneAddress a)) e w =
      let x = address_of look here o a in
      one_parts op (code_of op (Operands.LoneAddress x)) (operand_of bases x)
  text-fits (Ok (Shape.Data d)) e w = data_fits d e w

pub made-fits : (look : ℕ → Option Meaning) (c : Course) (s : List ℕ) → sound_reading (reading_of s) ≡ true → MadeFits (card_made look c s) s
unfolding card_made
made-fits look c s e = go (reading_of s) refl e
  where
    go : (x : Reading) → reading_of s ≡ x → sound_reading x ≡ true → MadeFits (reading_made look c s x) s
    go Comment q e = record { from = omega arith; end = omega arith; text = none-short }
    go BadName q e = record { from = omega arith; end = omega arith; text = none-short }
    go (Statement l) q e =
        let w = line-within s l q in
        let shaped : ShapeIn (operand_columns s l) l.shape = rw (line_shape s l q) (shape_in l.operation (operand_columns s l)) in
        record {
          from = w.operand;
          end = w.end;
          text = text-fits look c.counter c.bases l.operation (operand_columns s l) l.shape (line-sound l e).0 shaped;
        }
