-- READABLE (R21.3). The book of an accepted source keeps the layout; reading its bytes gives its entry,
-- its records and nothing else (R16.7);
-- so loading it is never refused by 50.
use Rattle.std.specs.Prelude.{◌+◌, ◌≤◌, ◌<◌, ◌∷◌, ◌≡◌}
use Rattle.std.proofs.Common.{◌∙◌}
use Rattle.theorems.specs.Logic.{ℕ, suc, List, [], Bool, true, false, refl, ap, arith, length, get_or, take, drop, sets, sets-eq, take-append_seam, le-leb, Option, None, Some, Result, Err}
use Rattle.theorems.specs.Types.{clean, Value, Displacement, Meaning, Operation, Shape, Reading, Role, Course, DataCard, Data, Pattern, Record, Book, Piece, State, through, made, Relocatable}
use Rattle.values.specs.Tests.{pick}
use Rattle.values.specs.Values.{amount_of}
use Rattle.book.specs.Book.{book_of}
use Rattle.book.specs.Writing.{book_bytes, entry_fits, fair_all}
use Rattle.book.proofs.Laws.{is-fair}
use Rattle.book.proofs.RoundTrip.{round_trip}
use Rattle.cards.specs.Source.{cards_of}
use Rattle.data.proofs.Fine.{constant-fine}
use Rattle.forms.specs.Size.{size_of}
use Rattle.forms.proofs.Laws.{address-size}
use Rattle.operations.specs.Traits.{use_of, role_of, fixed_size}
use Rattle.encode.specs.Pieces.{text_of}
use Rattle.load.specs.declared.LoadError.TheVariants.{Broken}
use Rattle.load.specs.Load.{judged, of_book, loading}
use Rattle.lines.specs.Lines.{reading_of, operand_columns}
use Rattle.passes.specs.Cards.{value_at}
use Rattle.passes.specs.One.{fresh, one_no, pass_one, sizes_no}
use Rattle.data.specs.Sizes.{data_size, data_no_by}
use Rattle.passes.specs.Two.{check_two, outset, step_two, card_pieces, record_of_pieces, with_record, card_records, entry_by, role_entry, reading_entry, entry_from, book_from}
use Rattle.passes.specs.Assembly.{assembled, assembling}
use Rattle.names.specs.Names.{find}
use Rattle.theorems.specs.Grow.{names_by, behind, behind_one, behind_two, look_in, counter_two, reading_size, card_size}
use Rattle.theorems.specs.Accepted.{made_answer, end_one}
use Rattle.theorems.specs.Fields.{pieces_at}
use Rattle.theorems.proofs.Lines.{Has, line_has, jumps, Fixed, row_of}
use Rattle.theorems.proofs.Grow.{room}
use Rattle.theorems.proofs.Texts.{Sized, some-text, card-sized, fields_fit_lem}
use Rattle.theorems.proofs.Accepted.{let_through, Fate, fate}
use Rattle.theorems.specs.Readable.{data_makes, text_size, reading_makes, makes}
use Rattle.statements.proofs.Laws.{lone-fits}
use Rattle.values.proofs.Laws.{clash}
use Rattle.theorems.proofs.Judged.{refused_50}
use Rattle.theorems.proofs.Outcomes.{cards-few, made-way}

-- A CARD'S TEXT is no more than the card's bytes, and no more than 256

data_most : (c : DataCard) (d : Data) → data_no_by c d ≡ 0 → (data_makes c (data_size d) ≤ data_size d) × (data_makes c (data_size d) ≤ 256)
data_most DataCard.Constant d n = (omega arith, (constant-fine d n).size)
data_most DataCard.Reserve d n = (omega arith, omega arith)

text-most : (op : Operation) (p : Pattern) (x : Result Shape ℕ) → Has p x → Fixed p (use_of op) (fixed_size op) → sizes_no x ≡ 0 → (text_size op x ≤ size_of op x) × (text_size op x ≤ 256)
text-most op p x Has.fails t n = (omega arith, omega arith)
text-most op p x Has.starts t n = (omega arith, omega arith)
text-most op p x Has.nothing t n = (omega arith, omega arith)
text-most op p x Has.lone t n = (omega arith, omega arith)
text-most op p x Has.maybe t n = (omega arith, omega arith)
text-most op p x (Has.constant {d}) t n = data_most d.card d n
text-most op p x (Has.reserve {d}) t n = data_most d.card d n
text-most op p x Has.pair t n = (omega arith, rw t (go (jumps (use_of op))))
  where
    go : (b : Bool) → pick {X = ℕ} b 3 0 ≤ 256
    go true = omega arith
    go false = omega arith
text-most op p x (Has.two {a = a} {b = b}) t n = let y = address-size a.register in let z = address-size b.register in (omega arith, omega arith)
text-most op p x (Has.one {a}) t n = let y = address-size a.register in (omega arith, omega arith)
text-most op p x (Has.only {a}) t n = let y = address-size a.register in (omega arith, omega arith)
text-most op p x Has.target t n = (omega arith, omega arith)

makes-most : (st : State) (s : List ℕ) → one_no st s ≡ 0 → (makes s ≤ card_size s) × (makes s ≤ 256)
unfolding makes card_size
makes-most st s e =
    let_through st s e (λ x. (reading_makes x ≤ reading_size x) × (reading_makes x ≤ 256)) (omega arith)
    (λ l q f. text-most l.operation _ l.shape (line_has s l q) (row_of l.operation).fixed f.sizes)

-- what an accepted source has come through: both passes, and the text of each card
pub record Source (ss : List (List ℕ)) (n : ℕ) (b : Book) : Type 0 where
  pub end : State
  pub one : pass_one 1 fresh ss ≡ through end
  pub two : check_two (look_in ss) 1 outset ss ≡ clean
  pub all : look_in ss ≡ find end.names
  pub count : n ≡ length end.names
  pub book : b ≡ book_from (look_in ss) ss
  pub sized : (k : ℕ) → k < length ss → Sized (makes (get_or ss k [])) (pieces_at ss k)
  pub most : (k : ℕ) → k < length ss → (makes (get_or ss k []) ≤ 256) × (counter_two ss k + makes (get_or ss k []) ≤ 65536)

pub accepted_source : (ss : List (List ℕ)) (n : ℕ) (b : Book) → assembled ss ≡ made n b → Source ss n b
accepted_source ss n b h = go (rw h at (fate ss))
  where
    go : {n : ℕ} {b : Book} → Fate ss (made n b) → Source ss n b
    go (Fate.both each end each' e no-bad) = record {
      end = end_one ss;
      one = e;
      two = no-bad;
      all = ap (λ x. find (names_by x)) e;
      count = refl;
      book = refl;
      sized = λ k i. card-sized (behind_one k fresh ss) (get_or ss k []) (each k i) (look_in ss) (behind_two (look_in ss) k outset ss) (each' k i);
      most = λ k i. let (less, short) = makes-most (behind_one k fresh ss) (get_or ss k []) (each k i) in let r = room ss (end_one ss) e k i in (short, omega arith);
    }

-- THE RECORDS

records-fair : (look : ℕ → Option Meaning) (ss : List (List ℕ)) (k : ℕ) (c : Course) (last : ℕ)
    → ((i : ℕ) → i < length ss → let size = length (text_of (card_pieces look (behind_two look i c ss) (get_or ss i []))) in (size ≤ 256) × ((behind_two look i c ss).counter + size ≤ 65536))
    → last < k → k + length ss ≤ 4001 → fair_all last (card_records look k c ss) ≡ true
unfolding card_records fair_all behind
records-fair look [] k c last each i few = refl
records-fair look (s ∷ ss) k c last each i few =
    let rest : (last : ℕ) → last < k + 1 → fair_all last (card_records look (k + 1) (step_two look c s) ss) ≡ true =
    λ last l. records-fair look ss (k + 1) (step_two look c s) last (λ n h. each (suc n) (omega arith)) l (omega arith) in
    go (card_pieces look c s) (each 0 (omega arith)) (rest last (omega arith)) (rest k (omega arith))
  where
    others : List Record
    others = card_records look (k + 1) (step_two look c s) ss

    go : (ps : List Piece) → (length (text_of ps) ≤ 256) × (c.counter + length (text_of ps) ≤ 65536) → fair_all last others ≡ true → fair_all k others ≡ true
        → fair_all last (with_record k c.counter ps others) ≡ true
    go [] most without later = without
    go (p ∷ ps) (short, high) without later =
        rw (is-fair last (record_of_pieces k c.counter (p ∷ ps)) (record {
          rise = i;
          card = omega arith;
          some = some-text p ps;
          short = short;
          high = high;
          inside = fields_fit_lem (p ∷ ps) 0 0 (length (text_of (p ∷ ps))) (omega arith) (omega arith);
        })) later

-- THE ENTRY

pub entry-fits : (look : ℕ → Option Meaning) (ss : List (List ℕ)) (c : Course) → entry_fits (entry_from look c ss) ≡ true
unfolding entry_from
entry-fits look [] c = refl
entry-fits look (s ∷ ss) c = go (reading_of s) (entry_from look (step_two look c s) ss) (entry-fits look ss (step_two look c s))
  where
    low : (v : Option Value) → ((w : Value) → v ≡ Some w → amount_of w < 65536) → entry_fits (entry_by v) ≡ true
    low (Some (Value.Absolute a)) l = refl
    low (Some (Value.Relocatable a)) l = le-leb a.0 65535 (omega (arith, l (Value.Relocatable a) refl))
    low None l = refl

    by : (r : Role) (v : Option Value) (rest : Option Relocatable) → entry_fits (entry_by v) ≡ true → entry_fits rest ≡ true → entry_fits (role_entry r v rest) ≡ true
    by Role.Starts v rest l h = h
    by Role.Equates v rest l h = h
    by Role.SetsCounter v rest l h = h
    by Role.Ends v rest l h = l
    by Role.Advances v rest l h = h

    go : (x : Reading) (rest : Option Relocatable) → entry_fits rest ≡ true → entry_fits (reading_entry look c s x rest) ≡ true
    go Reading.Comment rest h = h
    go Reading.BadName rest h = h
    go (Reading.Statement l) rest h =
        let v = value_at look c.counter s l in
        by (role_of l.operation) v rest (low v (lone-fits look c.counter (operand_columns s l) l.shape)) h

-- LOADING a book that could be read is never refused by 50
read_whole : (s : List ℕ) (b : Book) → book_of s ≡ Some b → (d : Displacement) (m : List ℕ) → (loading s d m).answer ≡ Err Broken → ⊥
read_whole s b is d m h = let none = (refused_50 s d m).0 h in clash (cc)

-- THE THEOREM, of an accepted source: at most 4,000 cards, a count of names and a book

module _ (ss : List (List ℕ)) (few : length ss ≤ 4000) (n : ℕ) (b : Book) (h : assembled ss ≡ made n b) where
  -- its records may follow one another: card numbers rise, texts of 1 to 256 bytes, fields inside, address plus length at most 65536
  pub fair-records : fair_all 0 b.records ≡ true
  unfolding book_from
  fair-records =
      let x = accepted_source ss n b h in
      rw x.book (records-fair (look_in ss) ss 1 outset 0 (λ k i. let size = (x.sized k i).1 in let most = x.most k i in (omega arith, omega arith)) (omega arith) (omega arith))

  -- two bytes hold its entry
  pub fair-entry : entry_fits b.entry ≡ true
  unfolding book_from
  fair-entry = rw (accepted_source ss n b h).book (entry-fits (look_in ss) ss outset)

  -- its bytes are read as the same entry and records, and nothing follows
  pub readable : book_of (book_bytes b) ≡ Some b
  readable = round_trip b fair-entry fair-records

  -- loading its bytes is loading its records
  pub loaded_as_made : (d : Displacement) (m : List ℕ) → loading (book_bytes b) d m ≡ judged b.entry d b.records m
  unfolding loading
  loaded_as_made d m = ap (λ x. of_book x d m) readable

  -- never 50
  pub never_broken : (d : Displacement) (m : List ℕ) → (loading (book_bytes b) d m).answer ≡ Err Broken → ⊥
  never_broken d m = read_whole (book_bytes b) b readable d m

-- a run stored in front is what stands in front
take-stored : (m vs : List ℕ) → length vs ≤ length m → take (length vs) (sets m 0 vs) ≡ vs
take-stored m vs h = rw (sets-eq vs m 0 (omega arith)) (take-append_seam vs (drop (0 + length vs) m))

-- THE SAME OF THE CALL: where assembling answers with a length and a count of names, so many first bytes of the output are read as the book of the cards

module _ (width : ℕ) (source work out : List ℕ) (bytes names : ℕ) (h : (assembling width source work out).answer ≡ made_answer bytes names) where
  pub call_readable : (b : Book) × (assembled (cards_of width source) ≡ made names b) × (take bytes (assembling width source work out).out ≡ book_bytes b)
      × (book_of (take bytes (assembling width source work out).out) ≡ Some b)
  call_readable =
      let x = made-way width source work out bytes names h in
      let few = cards-few width source x.source_fine in
      let front = ap (take bytes) x.written ∙ ap (λ n. take n (sets out 0 (book_bytes x.book))) x.size ∙ take-stored out (book_bytes x.book) x.room in
      (x.book, x.cards, front, ap book_of front ∙ readable (cards_of width source) few names x.book x.cards)

  -- never 50
  pub call_never_broken : (d : Displacement) (m : List ℕ) → (loading (take bytes (assembling width source work out).out) d m).answer ≡ Err Broken → ⊥
  call_never_broken d m =
      let (b, f, front, is) = call_readable in
      read_whole (take bytes (assembling width source work out).out) b is d m
