-- How long a card's text is, that no value in it is over 65535, and that its fields lie inside it.
use Rattle.std.specs.Prelude.{◌+◌, ◌-◌, ◌*◌, ◌/◌, ◌%◌, ◌≤◌, ◌<◌, ◌∷◌, ◌++◌, ◌≡◌}
use Rattle.std.proofs.Common.{◌∙◌}
use Rattle.theorems.specs.Logic.{tt, ℕ, zero, suc, List, [], map, Bool, true, false, refl, sym, ap, arith, length, length-append, leb, eqb, eqb-true, eqb-false, Option, None, Some, Result, Ok, Err}
use Rattle.theorems.specs.Types.{Value, Wanted, Meaning, Operation, Use, Pattern, DataType, DataCard, Data, Address, Shape, Operands, Bases, Operand, Course, Piece, plain, value, State, Fault, Refusal}
use Rattle.values.specs.Tests.{pick, both}
use Rattle.values.specs.Values.{amount_of}
use Rattle.values.proofs.Numbers.{lower-zero}
use Rattle.expressions.specs.Form.{expression_at}
use Rattle.expressions.specs.Value.{evaluated, refusal_for}
use Rattle.expressions.proofs.Laws.{accepted, accepted-absolute, value-fits}
use Rattle.operations.specs.Traits.{first_wanted, use_of, fixed_size}
use Rattle.data.specs.Sizes.{longest, data_size, data_no_by, data_no}
use Rattle.data.specs.Text.{constant_text}
use Rattle.data.proofs.Fine.{fits-length, constant-fine}
use Rattle.data.proofs.Texts.{text-length}
use Rattle.book.specs.Book.{fields_fit}
use Rattle.book.proofs.Laws.{fields-more, fields-none}
use Rattle.forms.specs.Shape.{of_data}
use Rattle.forms.specs.Size.{address_size}
use Rattle.operands.specs.Operands.{item_of, address_of, by_type, by_card, operands_of}
use Rattle.operands.specs.Kinds.{item_no, address_no, constant_wanted, expressions_no}
use Rattle.places.specs.Codes.{code_of, code_no}
use Rattle.places.specs.Places.{is_register, base_of, away_from, under_base, displaced_by, indexed_by, by_register, operand_of, placed_no, jump_to, use_no, places_no}
use Rattle.places.proofs.Laws.{code-there, jump-there}
use Rattle.statements.proofs.Laws.{jump_wants, accepted-card}
use Rattle.passes.specs.Cards.{operands_at}
use Rattle.statements.specs.Statements.{next_of, two_of, one_of, jump_of, statement_from}
use Rattle.encode.specs.Pieces.{text_of, offsets_from, operand_pieces, address_pieces, copied, pieces_of}
use Rattle.encode.proofs.Laws.{text_append, plain-text, copied-size}
use Rattle.lines.specs.Lines.{operand_columns}
use Rattle.passes.specs.One.{one_no}
use Rattle.passes.specs.Two.{reading_two_no, two_no, data_pieces, shape_pieces, line_pieces, reading_pieces, card_pieces}
use Rattle.theorems.specs.Readable.{data_makes, text_size, reading_makes, makes}
use Rattle.theorems.proofs.Lines.{Has, line_has, jumps, Fixed, row_of}
use Rattle.theorems.proofs.RaisedText.{Low}
use Rattle.theorems.proofs.Accepted.{let_through}
use Rattle.values.specs.declared.refusals.Refusal.TheVariants.{NoBase, OutOfReach}

-- PIECES

-- so many bytes, and every value among them at most 65535
abbrev pub Sized : ℕ → List Piece → Type 0
Sized n ps = Low ps × (length (text_of ps) ≡ n)

resized : (ps : List Piece) {m n : ℕ} → m ≡ n → Sized m ps → Sized n ps
resized ps e (low, size) = (low, size ∙ e)

-- a piece has at least one byte
pub some-text : (p : Piece) (ps : List Piece) → 1 ≤ length (text_of (p ∷ ps))
unfolding text_of
some-text (plain b) ps = omega arith
some-text (value v) ps = omega arith

low_append : (ps qs : List Piece) → Low ps → Low qs → Low (ps ++ qs)
low_append [] qs h k = k
low_append (plain b ∷ ps) qs h k = low_append ps qs h k
low_append (value v ∷ ps) qs h k = (h.0, low_append ps qs h.1 k)

sized_append : (m n : ℕ) (ps qs : List Piece) → Sized m ps → Sized n qs → Sized (m + n) (ps ++ qs)
sized_append m n ps qs (low, size) (low', size') = (low_append ps qs low low', ap length (text_append ps qs) ∙ length-append (text_of ps) (text_of qs) ∙ omega arith)

plain-low : (bs : List ℕ) → Low (map plain bs)
plain-low [] = tt
plain-low (b ∷ bs) = plain-low bs

copied-low : (n : ℕ) (ps : List Piece) → Low ps → Low (copied n ps)
unfolding copied
copied-low zero ps h = tt
copied-low (suc n) ps h = low_append ps (copied n ps) h (copied-low n ps h)

-- R8.12: m bytes
address-sized : (m : ℕ) (v : Value) → amount_of v < 65536 → 1 ≤ m → m ≤ 3 → Sized m (address_pieces m v)
unfolding address_pieces text_of
address-sized m v low l h = go (eqb m 1) refl (eqb m 3) refl
  where
    go : (a : Bool) → eqb m 1 ≡ a → (b : Bool) → eqb m 3 ≡ b
        → Sized m (pick a (plain (amount_of v % 256) ∷ []) (pick b (plain 0 ∷ plain (amount_of v / 256 % 256) ∷ plain (amount_of v % 256) ∷ []) (value v ∷ [])))
    go true e b f = (tt, sym (eqb-true m 1 e))
    go false e true f = (tt, sym (eqb-true m 3 f))
    go false e false f = let x = eqb-false m 1 e in let y = eqb-false m 3 f in ((low, tt), omega (arith, x, y))

-- FIELDS lie inside the text, ascending by at least 2
pub fields_fit_lem : (ps : List Piece) (at least size : ℕ) → least ≤ at → at + length (text_of ps) ≤ size → fields_fit least size (offsets_from at ps) ≡ true
unfolding text_of offsets_from
fields_fit_lem [] at least size h k = fields-none least size
fields_fit_lem (plain b ∷ ps) at least size h k = fields_fit_lem ps (at + 1) least size (omega arith) (omega arith)
fields_fit_lem (value (Value.Absolute a) ∷ ps) at least size h k = fields_fit_lem ps (at + 2) least size (omega arith) (omega arith)
fields_fit_lem (value (Value.Relocatable a) ∷ ps) at least size h k =
    fields-more least size at (offsets_from (at + 2) ps) h (omega arith) ∙ fields_fit_lem ps (at + 2) (at + 2) size (omega arith) (omega arith)

-- PARTS OF A STATEMENT that are not refused

-- R9.6: two bytes where direct, one where indexed
abbrev IsOperand : ℕ → Result (Option Operand) Refusal → Type 0
IsOperand n p = (x : Operand) × (p ≡ Ok (Some x)) × Sized n (operand_pieces x)

away_sized : (v : Value) (r from amount : ℕ) → placed_no (away_from v r from amount) ≡ 0 → IsOperand 1 (away_from v r from amount)
unfolding away_from text_of
away_sized v r from amount = go (both (leb from amount) (leb (amount - from) 255))
  where
    go : (b : Bool) → placed_no (pick b (Ok (Some (Operand.Indexed v r (amount - from)))) (Err OutOfReach)) ≡ 0
        → IsOperand 1 (pick b (Ok (Some (Operand.Indexed v r (amount - from)))) (Err OutOfReach))
    go true h = (Operand.Indexed v r (amount - from), refl, (tt, refl))
    go false h = absurd (omega arith)

indexed-sized : (bases : Bases) (v : Value) (r : ℕ) → placed_no (indexed_by bases v r) ≡ 0 → IsOperand 1 (indexed_by bases v r)
unfolding indexed_by displaced_by
indexed-sized bases v r = go (is_register r) v
  where
    under : (v : Value) (amount : ℕ) (b : Option Value) → placed_no (under_base v r amount b) ≡ 0 → IsOperand 1 (under_base v r amount b)
    under v amount None h = absurd (omega arith)
    under v amount (Some (Value.Absolute b)) h = absurd (omega arith)
    under v amount (Some (Value.Relocatable b)) h = away_sized v r b.0 amount h

    go : (b : Bool) (v : Value) → placed_no (pick b (displaced_by v r (base_of bases r)) (Err NoBase)) ≡ 0 → IsOperand 1 (pick b (displaced_by v r (base_of bases r)) (Err NoBase))
    go true (Value.Absolute a) h = away_sized (Value.Absolute a) r 0 a.0 h
    go true (Value.Relocatable a) h = under (Value.Relocatable a) a.0 (base_of bases r) h
    go false v h = absurd (omega arith)

-- a jump has three bytes; no other card makes one of its expression
jump-sized : (op : Operation) (c : Result (Option ℕ) Refusal) (next : ℕ) (e last : Result Value Fault)
    → code_no c ≡ 0 → refusal_for (first_wanted op) e ≡ 0 → use_no (use_of op) next e last ≡ 0
    → Sized (pick (jumps (use_of op)) 3 0) (pieces_of (jump_of (use_of op) c (jump_to next e)))
unfolding pieces_of text_of
jump-sized op c next e last h i k = go (use_of op) refl k
  where
    go : (u : Use) → use_of op ≡ u → use_no u next e last ≡ 0 → Sized (pick (jumps u) 3 0) (pieces_of (jump_of u c (jump_to next e)))
    go Use.Jumps u k = rw ((code-there c h).is, (jump-there next e (rw (jump_wants op u) at i) k).is) (tt, refl)
    go Use.Registers u k = (tt, refl)
    go Use.Nothing u k = (tt, refl)

-- an operation byte, Q, and the operands
one-sized : (op : Operation) (c : Result (Option ℕ) Refusal) (p : Result (Option Operand) Refusal) (n : ℕ) → code_no c ≡ 0 → IsOperand n p → Sized (2 + n) (pieces_of (one_of op c p))
unfolding pieces_of text_of
one-sized op c p n h (x, is, (low, size)) = rw ((code-there c h).is, is) (low, omega arith)

two_sized : (op : Operation) (c : Result (Option ℕ) Refusal) (p q : Result (Option Operand) Refusal) (m n : ℕ)
    → code_no c ≡ 0 → IsOperand m p → IsOperand n q → Sized (2 + m + n) (pieces_of (two_of op c p q))
unfolding pieces_of text_of
two_sized op c p q m n h (x, is, first) (y, is', second) =
    let (low, size) = sized_append m n (operand_pieces x) (operand_pieces y) first second in
    rw ((code-there c h).is, is, is') (low, omega arith)

-- THE TEXT OF A LINE that neither pass refuses

module _ (look : ℕ → Option Meaning) (here : ℕ) (bases : Bases) (o : List ℕ) where
  abbrev expression : ℕ → Result Value Fault
  expression p = evaluated look here (expression_at o p)

  operand-sized : (a : Address) → address_no (address_of look here o a) ≡ 0 → placed_no (operand_of bases (address_of look here o a)) ≡ 0
      → IsOperand (address_size a.register) (operand_of bases (address_of look here o a))
  unfolding operand_of text_of
  operand-sized a h k =
      let (p, q) = lower-zero _ _ h in
      let x = accepted Wanted.Any (expression a.at) p in
      let low = value-fits look here (expression_at o a.at) x.value x.good in
      rw x.good (go x.value low a.register (lower-zero _ _ q).1 (rw x.good at k))
    where
      go : (v : Value) → amount_of v < 65536 → (i : Option ℕ) → item_no (item_of look here o i) ≡ 0 → placed_no (by_register bases v (item_of look here o i)) ≡ 0
          → IsOperand (address_size i) (by_register bases v (item_of look here o i))
      go v low None h k = (Operand.Direct v, refl, ((low, tt), refl))
      go v low (Some p) h k =
          let y = accepted-absolute (expression p) h in
          let k' = rw y.good at k in
          rw y.good (indexed-sized bases v y.amount k')

  module _ (op : Operation) where
    abbrev pieces : Result Shape ℕ → List Piece
    pieces x = shape_pieces x o (pieces_of (statement_from op (operands_of look here o x) here bases))

    data_sized : (d : Data) → data_no d ≡ 0 → expressions_no op (operands_of look here o (Ok (Shape.Data d))) ≡ 0
        → Sized (data_makes d.card (data_size d)) (pieces (Ok (Shape.Data d)))
    unfolding operands_of statement_from expressions_no pieces_of data_size text_of
    data_sized d n h = go d.card d.kind refl n h
      where
        text : data_no_by DataCard.Constant d ≡ 0 → Sized (data_size d) (map plain (constant_text o d))
        text n = (plain-low (constant_text o d), ap length (plain-text (constant_text o d)) ∙ text-length o d n)

        go : (c : DataCard) (k : DataType) → d.kind ≡ k → data_no_by c d ≡ 0
            → expressions_no op (by_card c (by_type k (Operands.AddressConstants d.copies d.length (expression d.value)))) ≡ 0
            → Sized (data_makes c (d.copies * d.length)) (data_pieces c k (constant_text o d)
            (pieces_of (statement_from op (by_card c (by_type k (Operands.AddressConstants d.copies d.length (expression d.value)))) here bases)))
        go DataCard.Reserve k is n h = (tt, refl)
        go DataCard.Constant DataType.Characters is n h = text n
        go DataCard.Constant DataType.Hexadecimal is n h = text n
        go DataCard.Constant DataType.Decimal is n h = text n
        go DataCard.Constant DataType.Address is n h =
            let f = constant-fine d n in
            let l = (fits-length d f.fits).1 in
            let most : longest d.kind ≡ 3 = ap longest is in
            let x = accepted (constant_wanted d.length) (expression d.value) h in
            let (low, size) = address-sized d.length x.value (value-fits look here (expression_at o d.value) x.value x.good) f.some (omega arith) in
            rw x.good (copied-low d.copies (address_pieces d.length x.value) low, copied-size d.copies (address_pieces d.length x.value) ∙ ap (λ (n : ℕ). d.copies * n) size)

    -- the text of a card has the bytes of its form; that of DS none
    text-sized : (p : Pattern) (x : Result Shape ℕ) → Has p x → Fixed p (use_of op) (fixed_size op) → of_data x data_no 0 ≡ 0
        → expressions_no op (operands_of look here o x) ≡ 0 → code_no (code_of op (operands_of look here o x)) ≡ 0 → places_no (use_of op) (operands_of look here o x) (next_of op here) bases ≡ 0
        → Sized (text_size op x) (pieces x)
    unfolding operands_of statement_from expressions_no code_of places_no pieces_of text_of
    text-sized p x Has.fails t n e c k = (tt, refl)
    text-sized p x Has.starts t n e c k = (tt, refl)
    text-sized p x Has.nothing t n e c k = (tt, refl)
    text-sized p x Has.lone t n e c k = rw t at (jump-sized op (code_of op (Operands.Lone (expression 0))) (next_of op here) (expression 0) (expression 0) c e k)
    text-sized p x Has.maybe t n e c k = rw t at (jump-sized op (code_of op (Operands.Lone (expression 0))) (next_of op here) (expression 0) (expression 0) c e k)
    text-sized p x (Has.constant {d}) t n e c k = data_sized d n e
    text-sized p x (Has.reserve {d}) t n e c k = data_sized d n e
    text-sized p x (Has.pair {q}) t n e c k =
        resized (pieces (Ok (Shape.Pair q))) (sym t)
        (jump-sized op (code_of op (Operands.Pair (expression 0) (expression q))) (next_of op here) (expression 0) (expression q) c (lower-zero _ _ e).0 k)
    text-sized p x (Has.two {a = a} {b = b}) t n e c k =
        let (e₀, e₁) = lower-zero _ _ e in
        let (k₀, k₁) = lower-zero _ _ k in
        rw t (two_sized op (code_of op (Operands.TwoAddresses (address_of look here o a) (address_of look here o b))) _ _ _ _ c (operand-sized a e₀ k₀) (operand-sized b e₁ k₁))
    text-sized p x (Has.one {a} {q}) t n e c k =
        rw t (one-sized op (code_of op (Operands.AddressAndCode (address_of look here o a) (expression q))) _ _ c (operand-sized a (lower-zero _ _ e).0 k))
    text-sized p x (Has.only {a}) t n e c k = rw t (one-sized op (code_of op (Operands.LoneAddress (address_of look here o a))) _ _ c (operand-sized a e k))
    text-sized p x Has.target t n e c k =
        resized (pieces (Ok Shape.Target)) (ap (λ b. pick b 3 0) t.0 ∙ sym t.1)
        (jump-sized op (code_of op (Operands.Lone (expression 0))) (next_of op here) (expression 0) (expression 0) c e k)

-- the text of a card that neither pass refuses has the bytes that the card makes
pub card-sized : (st : State) (s : List ℕ) → one_no st s ≡ 0 → (look : ℕ → Option Meaning) (c : Course) → two_no look c s ≡ 0 → Sized (makes s) (card_pieces look c s)
unfolding card_pieces line_pieces makes text_of two_no
card-sized st s h look c k =
    let_through st s h (λ x. reading_two_no look c s x ≡ 0 → Sized (reading_makes x) (reading_pieces look c s x)) (λ k. (tt, refl))
    (λ l q f k. let x = accepted-card l.operation (operands_at look c.counter s l) c.counter c.bases k in
    text-sized look c.counter c.bases (operand_columns s l) l.operation _ l.shape (line_has s l q) (row_of l.operation).fixed f.sizes x.expressions x.code x.places)
    k
