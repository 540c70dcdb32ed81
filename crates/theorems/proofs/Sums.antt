-- SUMS (R21.3): no count is made up, each is a sum over cards or records.
-- R15.2: the book's length and the count of names; R17.9: the bytes stored.
use Rattle.std.specs.Prelude.{◌+◌, ◌<◌, ◌∷◌, ◌≡◌}
use Rattle.std.proofs.Common.{◌∙◌}
use Rattle.theorems.specs.Logic.{ℕ, suc, List, [], refl, ap, arith, length, get_or, length-append, Option, None, Some}
use Rattle.theorems.specs.Types.{Displacement, Reading, Line, Course, Meaning, Record, Book, Piece, State, through, made, Relocatable, Value}
use Rattle.names.specs.Names.{defined}
use Rattle.names.proofs.Names.{defined-length}
use Rattle.book.specs.Book.{book_of}
use Rattle.book.specs.Writing.{record_bytes, records_bytes, book_bytes}
use Rattle.cards.specs.Source.{cards_of}
use Rattle.lines.specs.Lines.{reading_of}
use Rattle.encode.specs.Pieces.{text_of}
use Rattle.load.specs.Load.{bytes_stored, loading}
use Rattle.passes.specs.Cards.{name_length}
use Rattle.passes.specs.One.{with_name, if_named, names_after, fresh, reading_step, step_one, pass_one, one_no}
use Rattle.passes.specs.Two.{outset, step_two, card_pieces, with_record, card_records, book_from}
use Rattle.passes.specs.Assembly.{assembled, assembling}
use Rattle.passes.proofs.Turns.{pass_turn}
use Rattle.theorems.specs.Readable.{makes}
use Rattle.theorems.specs.Sums.{total, reading_defines, defines, text_length, record_length}
use Rattle.theorems.proofs.Grow.{line-value}
use Rattle.theorems.proofs.Readable.{accepted_source}
use Rattle.passes.proofs.Fine.{Fine}
use Rattle.book.proofs.Written.{book-length}
use Rattle.theorems.specs.Grow.{behind, behind_two, look_in}
use Rattle.theorems.specs.Accepted.{made_answer}
use Rattle.theorems.specs.Judged.{stored_answer}
use Rattle.theorems.proofs.Accepted.{let_through, pass-ended}
use Rattle.theorems.proofs.Outcomes.{made-way, Load, load}

-- THE COUNT OF NAMES

step_count : (st : State) (s : List ℕ) → one_no st s ≡ 0 → length (step_one st s).names ≡ length st.names + defines s
unfolding step_one defines names_after
step_count st s h = let_through st s h (λ x. length (reading_step st s x).names ≡ length st.names + reading_defines x) (omega arith) line
  where
    named : (name : Option ℕ) (v : Value) (size : ℕ)
        → length (with_name name (λ k. defined (record { number = k; value = v; length = size }) st.names) st.names) ≡ length st.names + if_named name (λ k. 1)
    named (Some name) v size = defined-length (record { number = name; value = v; length = size }) st.names
    named None v size = omega arith

    line : (l : Line) → reading_of s ≡ Reading.Statement l → Fine st s l → length (names_after st s l) ≡ length st.names + if_named l.name (λ k. 1)
    line l q f =
        let (v, is) = line-value st s l q f in
        rw is (named l.name v (name_length l.operation l.shape))

pass-count : (ss : List (List ℕ)) (k : ℕ) (st a : State) → pass_one k st ss ≡ through a → length a.names ≡ length st.names + total defines ss
unfolding total
pass-count [] k st a h = ap (λ (x : State). length x.names) (pass-ended k st a h).0 ∙ omega arith
pass-count (s ∷ ss) k st a h =
    let t = pass_turn k st a s ss h in
    let r = pass-count ss (k + 1) (step_one st s) a t.1 in
    let c = step_count st s t.0 in
    omega arith

-- THE BYTES OF THE RECORDS

records-bytes : (look : ℕ → Option Meaning) (ss : List (List ℕ)) (k : ℕ) (c : Course)
    → ((i : ℕ) → i < length ss → length (text_of (card_pieces look (behind_two look i c ss) (get_or ss i []))) ≡ makes (get_or ss i []))
    → total text_length (card_records look k c ss) ≡ total makes ss
unfolding card_records total text_of behind
records-bytes look [] k c each = refl
records-bytes look (s ∷ ss) k c each =
    go (card_pieces look c s) (each 0 (omega arith)) (records-bytes look ss (k + 1) (step_two look c s) (λ i h. each (suc i) (omega arith)))
  where
    rest : List Record
    rest = card_records look (k + 1) (step_two look c s) ss

    go : (ps : List Piece) → length (text_of ps) ≡ makes s → total text_length rest ≡ total makes ss
        → total text_length (with_record k c.counter ps rest) ≡ makes s + total makes ss
    go [] e r = omega arith
    go (p ∷ ps) e r = omega arith

-- the book's length is 8 plus the sum of its records' lengths
records-length : (rs : List Record) → length (records_bytes rs) ≡ total record_length rs
unfolding records_bytes total
records-length [] = refl
records-length (r ∷ rs) = length-append (record_bytes r) (records_bytes rs) ∙ ap (λ n. record_length r + n) (records-length rs)

pub book-size : (b : Book) → length (book_bytes b) ≡ 8 + total record_length b.records
book-size b = book-length b ∙ ap (λ n. 8 + n) (records-length b.records)

stored_sum : (rs : List Record) → bytes_stored rs ≡ total text_length rs
unfolding bytes_stored total
stored_sum [] = refl
stored_sum (r ∷ rs) = ap (λ n. length r.text + n) (stored_sum rs)

-- THE THEOREMS

module _ (ss : List (List ℕ)) (n : ℕ) (b : Book) (h : assembled ss ≡ made n b) where
  -- the count of names is the number of cards that define one
  pub count_of_names : n ≡ total defines ss
  count_of_names =
      let p = accepted_source ss n b h in
      let names = pass-count ss 1 fresh p.end p.one in
      omega arith

  -- the bytes of the records' texts are those that the cards make
  pub bytes_of_cards : total text_length b.records ≡ total makes ss
  unfolding book_from
  bytes_of_cards =
      let x = accepted_source ss n b h in
      ap (λ (x : Book). total text_length x.records) x.book ∙ records-bytes (look_in ss) ss 1 outset (λ k i. (x.sized k i).1)

-- the bytes stored by an accepted load are the sum of the records' text lengths
pub bytes_of_load : (s : List ℕ) (d : Displacement) (m : List ℕ) (bytes : ℕ) (at : Option Relocatable) → (loading s d m).answer ≡ stored_answer bytes at
    → (b : Book) × (book_of s ≡ Some b) × (bytes ≡ total text_length b.records)
bytes_of_load s d m bytes at h = go (rw h at (load s d m))
  where
    go : {bytes : ℕ} {at : Option Relocatable} {x : List ℕ} → Load s d m (stored_answer bytes at) x → (b : Book) × (book_of s ≡ Some b) × (bytes ≡ total text_length b.records)
    go (Load.is_stored b f i u o at x l) = (b, f, stored_sum b.records)

-- of the call: the answer's two numbers
pub counts_of_call : (width : ℕ) (source work out : List ℕ) (bytes names : ℕ) → (assembling width source work out).answer ≡ made_answer bytes names
    → (b : Book) × (assembled (cards_of width source) ≡ made names b) × (bytes ≡ 8 + total record_length b.records) × (names ≡ total defines (cards_of width source))
counts_of_call width source work out bytes names h =
    let x = made-way width source work out bytes names h in
    (x.book, x.cards, x.size ∙ book-size x.book, count_of_names (cards_of width source) names x.book x.cards)
