-- The record of what a card makes in bytes: how long it is, and those of the cards behind it.
use Rattle.std.specs.Prelude.{Option}
use Prim.Native.Nat.{ℕ, ◌+◌, ◌-◌, ◌*◌, ◌/◌, ◌%◌, ◌≤◌}
use mathlib.Core.List.{List, [], ◌∷◌, ◌++◌}
use mathlib.Core.Path.{◌≡◌, refl, sym, ap, ◌∙◌}
use native.Mathlib.Omega.{arith}
use lib.ListN.{length}
use borrow.Author.Tests.{eq-eqb, ne_eqb}
use Rattle.values.proofs.Laws.{clash}
use Rattle.values.specs.Words.{part}
use Rattle.names.specs.declared.Meaning.{Meaning}
use Rattle.book.specs.Book.{Record, rest_head}
use Rattle.book.specs.Writing.{head_bytes, record_bytes, record_length, records_bytes}
use Rattle.book.proofs.Written.{record_length_lem}
use Rattle.data.specs.Text.{constant_text}
use Rattle.data.proofs.Fine.{constant-fine}
use Rattle.data.proofs.Texts.{text-length}
use Rattle.encode.specs.Pieces.{Piece, text_of, fields_of, pieces_of}
use Rattle.encode.proofs.Laws.{plain-text, plain-fields, text-none, fields_half}
use Rattle.passes.specs.declared.Course.{Course}
use Rattle.passes.specs.Two.{step_two, card_pieces, record_of_pieces, with_record, card_records}
use Rattle.making.specs.declared.Text.{Text}
use Rattle.making.specs.declared.Made.{Made}
use Rattle.making.specs.Steps.{text_pieces, card_made, text_length, text_fields, made_length, card_record, made_record, TextFits, MadeFits}
use Rattle.making.proofs.Cards.{made-pieces}

-- the pieces of a card are those of the text that it makes
made-are : (look : ℕ → Option Meaning) (c : Course) (s : List ℕ) (x : Made) → x ≡ card_made look c s → card_pieces look c s ≡ text_pieces x.text (part s x.from (x.end - x.from))
made-are look c s x e = made-pieces look c s ∙ ap (λ (y : Made). text_pieces y.text (part s y.from (y.end - y.from))) (sym e)

-- TEXTS

pub fields-are : (t : Text) (o : List ℕ) → fields_of (text_pieces t o) ≡ text_fields t
fields-are (Text.Columns d) o = plain-fields 0 (constant_text o d)
fields-are (Text.Stated st) o = refl

module _ (t : Text) (o : List ℕ) where
  pub length-is : TextFits t o → length (text_of (text_pieces t o)) ≡ text_length t
  length-is = go t
    where
      go : (t : Text) → TextFits t o → length (text_of (text_pieces t o)) ≡ text_length t
      go (Text.Columns d) f = ap length (plain-text (constant_text o d)) ∙ text-length o d f.0
      go (Text.Stated st) f = refl

  pub text-short : TextFits t o → text_length t ≤ 256
  text-short = go t
    where
      go : (t : Text) → TextFits t o → text_length t ≤ 256
      go (Text.Columns d) f = (constant-fine d f.0).size
      go (Text.Stated st) f = f

  -- a field has two bytes
  pub text_half : TextFits t o → 2 * length (text_fields t) ≤ text_length t
  text_half = go t
    where
      go : (t : Text) → TextFits t o → 2 * length (text_fields t) ≤ text_length t
      go (Text.Columns d) f = omega arith
      go (Text.Stated st) f = fields_half 0 (pieces_of st)

-- RECORDS

-- the length of the rest, card, address and count; then the fields; then the text
pub record_is : (card address : ℕ) (ps : List Piece) (size count : ℕ) → length (text_of ps) ≡ size → length (fields_of ps) ≡ count
    → record_bytes (record_of_pieces card address ps) ≡ head_bytes (rest_head + count + size) card (address % 65536) count ++ (fields_of ps ++ text_of ps)
unfolding record_bytes
record_is card address ps size count a b =
    let high : address % 65536 / 256 % 256 ≡ address / 256 % 256 = omega arith in
    let low : address % 65536 % 256 ≡ address % 256 = omega arith in
    rw (a, b, high, low)

pub record_size : (card address : ℕ) (ps : List Piece) (size count : ℕ) → length (text_of ps) ≡ size → length (fields_of ps) ≡ count
    → length (card_record card address ps) ≡ record_length size count
unfolding text_of
record_size card address [] size count a b = rw (eq-eqb size 0 (sym a))
record_size card address (p ∷ ps) size count a b =
    let l = record_length_lem (record_of_pieces card address (p ∷ ps)) in
    rw (ne_eqb size 0 (λ z. let none = text-none (p ∷ ps) (a ∙ z) in clash (cc))) (l ∙ omega arith)

-- a text without a byte has no record, one with a byte has
pub record_none : (card address : ℕ) (ps : List Piece) → length (text_of ps) ≡ 0 → card_record card address ps ≡ []
record_none card address ps h = rw (text-none ps h)

pub record_some : (card address : ℕ) (ps : List Piece) → (length (text_of ps) ≡ 0 → ⊥) → card_record card address ps ≡ record_bytes (record_of_pieces card address ps)
unfolding text_of
record_some card address [] h = absurd (h refl)
record_some card address (p ∷ ps) h = refl

-- the record of what a card makes
pub made_bytes : (look : ℕ → Option Meaning) (c : Course) (s : List ℕ) (x : Made) → x ≡ card_made look c s → (k : ℕ) → card_record k c.counter (card_pieces look c s) ≡ made_record k c.counter x s
made_bytes look c s x e k = ap (card_record k c.counter) (made-are look c s x e)

pub made-size : (look : ℕ → Option Meaning) (c : Course) (s : List ℕ) (x : Made) → x ≡ card_made look c s → MadeFits x s → (k : ℕ)
    → length (card_record k c.counter (card_pieces look c s)) ≡ made_length x
made-size look c s x e f k =
    let o = part s x.from (x.end - x.from) in
    let is = made-are look c s x e in
    record_size k c.counter (card_pieces look c s) (text_length x.text) (length (text_fields x.text))
    (ap (λ ps. length (text_of ps)) is ∙ length-is x.text o f.text) (ap (λ ps. length (fields_of ps)) is ∙ ap length (fields-are x.text o))

-- the record of the first card, and those behind it
pub records-more : (look : ℕ → Option Meaning) (k : ℕ) (c : Course) (s : List ℕ) (ss : List (List ℕ))
    → records_bytes (card_records look k c (s ∷ ss)) ≡ card_record k c.counter (card_pieces look c s) ++ records_bytes (card_records look (k + 1) (step_two look c s) ss)
unfolding card_records records_bytes
records-more look k c s ss = go (card_pieces look c s) (card_records look (k + 1) (step_two look c s) ss)
  where
    go : (ps : List Piece) (rs : List Record) → records_bytes (with_record k c.counter ps rs) ≡ card_record k c.counter ps ++ records_bytes rs
    go [] rs = refl
    go (p ∷ ps) rs = refl

pub records-none : (look : ℕ → Option Meaning) (k : ℕ) (c : Course) → records_bytes (card_records look k c []) ≡ []
unfolding card_records records_bytes
records-none look k c = refl
