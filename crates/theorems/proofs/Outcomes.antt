-- What follows from the answer of a call: the ways an assembly and a load can go, told by the answer and the lent bytes that each leaves.
use Rattle.std.specs.Prelude.{◌+◌, ◌/◌, ◌%◌, ◌≤◌, ◌≡◌}
use Rattle.std.proofs.Common.{◌∙◌}
use Rattle.theorems.specs.Logic.{ℕ, zero, suc, List, Bool, true, false, refl, sym, ap, arith, length, ltb, leb, eqb, sets, eqb-true, eqb-false, ltb-true, ltb-false, le-leb, le-ltb, lt-ltb, Option, None, Some, Result, Err}
use Rattle.theorems.specs.Types.{Displacement, Relocatable, Stored, LoadError, Assembled, Refused, Book, Translated, made, refused}
use Rattle.values.specs.Tests.{pick}
use Rattle.values.specs.Values.{moved_by}
use Rattle.values.proofs.Sums.{moved_to, moved-over}
use Rattle.names.specs.Table.{zeroed}
use Rattle.book.specs.Book.{book_of}
use Rattle.book.specs.Writing.{book_bytes, entry_fits}
use Rattle.cards.specs.Source.{is_width, source_no, cards_from, cards_of}
use Rattle.cards.proofs.Whole.{source_whole}
use Rattle.fields.specs.Fields.{over_field}
use Rattle.load.specs.Load.{Outcome as Loads, bytes_stored, stored_all, first_card, outside, room_in, judged_entry, judged_moved, judged, of_book, loading}
use Rattle.passes.specs.Assembly.{Outcome, assembled, work_size, refusal, written, outcome_of, assembling}
use Rattle.passes.proofs.Assembly.{too_long, fits, no_source, no_work, through_call}
use Rattle.theorems.specs.Moved.{moved_entry}
use Rattle.theorems.specs.Judged.{stored_answer, entry_over}
use Rattle.theorems.specs.Accepted.{made_answer}

-- ASSEMBLING

cards-length : (n width : ℕ) (s : List ℕ) (at : ℕ) → length (cards_from n width s at) ≡ n
unfolding cards_from
cards-length zero width s at = refl
cards-length (suc n) width s at = ap suc (cards-length n width s _)

-- 1 and 2 are all that a source can be refused for at once
source_numbers : (width size : ℕ) → source_no width size ≤ 2
unfolding source_no
source_numbers width size = go (is_width width) (eqb (size % width) 0) (leb (size / width) 4000)
  where
    go : (x y z : Bool) → pick {X = ℕ} x (pick y (pick z 0 2) 1) 1 ≤ 2
    go true true true = omega arith
    go true true false = omega arith
    go true false z = omega arith
    go false y z = omega arith

-- R1.3: at most 4,000 cards
pub cards-few : (width : ℕ) (source : List ℕ) → source_no width (length source) ≡ 0 → length (cards_of width source) ≤ 4000
unfolding cards_of
cards-few width source e =
    let few = (source_whole width (length source) e).few in
    let many = cards-length (length source / width) width source 0 in
    omega arith

module _ (width : ℕ) (source work out : List ℕ) where
  -- R13.1: one way for each step of the order: the answer, the work area, the output
  pub data Way : Result Assembled Refused → List ℕ → List ℕ → Type 0 where
    -- 1, 2 and 3
    at_once : (number : ℕ) → 1 ≤ number → number ≤ 3 → Way (refusal number 0) work out
    -- a card is refused, or END is missing
    by_cards : work_size ≤ length work → source_no width (length source) ≡ 0 → (number card : ℕ) → assembled (cards_of width source) ≡ refused number card
        → Way (refusal number card) (zeroed work_size work) out
    -- 30
    too_long_book : work_size ≤ length work → Way (refusal 30 0) (zeroed work_size work) out
    -- accepted
    whole : work_size ≤ length work → source_no width (length source) ≡ 0 → (names : ℕ) (book : Book) → assembled (cards_of width source) ≡ made names book
        → length (book_bytes book) ≤ length out → Way (made_answer (length (book_bytes book)) names) (zeroed work_size work) (sets out 0 (book_bytes book))

  abbrev IsWay : Outcome → Type 0
  IsWay x = Way x.answer x.work x.out

  pub way : IsWay (assembling width source work out)
  way = first (eqb (source_no width (length source)) 0) refl
    where
      space : work_size ≤ length work → (names : ℕ) (book : Book) → source_no width (length source) ≡ 0 → assembled (cards_of width source) ≡ made names book
          → (b : Bool) → ltb (length out) (length (book_bytes book)) ≡ b → IsWay (written names (book_bytes book) (zeroed work_size work) out)
      space w names book e f true h = rw (too_long names (book_bytes book) (zeroed work_size work) out (ltb-true _ _ h)) (too_long_book w)
      space w names book e f false h =
          let l = ltb-false (length out) (length (book_bytes book)) h in
          rw (fits names (book_bytes book) (zeroed work_size work) out l) (whole w e names book f l)

      third : work_size ≤ length work → source_no width (length source) ≡ 0 → (r : Translated) → assembled (cards_of width source) ≡ r → IsWay (outcome_of r (zeroed work_size work) out)
      third w e (made names book) g = space w names book e g (ltb (length out) (length (book_bytes book))) refl
      third w e (refused number card) g = by_cards w e number card g

      second : source_no width (length source) ≡ 0 → (b : Bool) → ltb (length work) work_size ≡ b → IsWay (assembling width source work out)
      second e true f = rw (no_work width source work out e (ltb-true (length work) work_size f)) (at_once 3 (omega arith) (omega arith))
      second e false f =
          let w = ltb-false (length work) work_size f in
          rw (through_call width source work out e w) (third w e (assembled (cards_of width source)) refl)

      first : (b : Bool) → eqb (source_no width (length source)) 0 ≡ b → IsWay (assembling width source work out)
      first true e = second (eqb-true (source_no width (length source)) 0 e) (ltb (length work) work_size) refl
      first false e =
          let n = source_numbers width (length source) in
          let z = eqb-false (source_no width (length source)) 0 e in
          rw (no_source width source work out z) (at_once (source_no width (length source)) (omega (arith, z)) (omega arith))

  abbrev after : Outcome
  after = assembling width source work out

  -- what an accepted call comes from
  pub record IsMade (bytes names : ℕ) : Type 0 where
    pub space : work_size ≤ length work
    pub source_fine : source_no width (length source) ≡ 0
    pub book : Book
    pub cards : assembled (cards_of width source) ≡ made names book
    pub size : bytes ≡ length (book_bytes book)
    pub room : length (book_bytes book) ≤ length out
    pub written : after.out ≡ sets out 0 (book_bytes book)

  pub made-way : (bytes names : ℕ) → after.answer ≡ made_answer bytes names → IsMade bytes names
  made-way bytes names h = go after.out refl (rw h at way)
    where
      go : {bytes names : ℕ} {w : List ℕ} (o : List ℕ) → after.out ≡ o → Way (made_answer bytes names) w o → IsMade bytes names
      go o e (whole w f names book g l) = record { space = w; source_fine = f; book = book; cards = g; size = refl; room = l; written = e }

  -- the output is as it was, or has the book in front; the work area is as it was, or zero in front
  pub out-after : (P : List ℕ → Type 0) → P out → ((bytes : List ℕ) → P (sets out 0 bytes)) → P after.out
  out-after P same put = go way
    where
      go : {a : Result Assembled Refused} {w o : List ℕ} → Way a w o → P o
      go (at_once n l u) = same
      go (by_cards w f n k e) = same
      go (too_long_book w) = same
      go (whole w f n b e l) = put (book_bytes b)

  pub work-after : (P : List ℕ → Type 0) → P work → (work_size ≤ length work → P (zeroed work_size work)) → P after.work
  work-after P same cleared = go way
    where
      go : {a : Result Assembled Refused} {w o : List ℕ} → Way a w o → P w
      go (at_once n l u) = same
      go (by_cards w f n k e) = cleared w
      go (too_long_book w) = cleared w
      go (whole w f n b e l) = cleared w

-- R17.4: LOADING: 50, then 51, then 52, each over the whole book

module _ (s : List ℕ) (d : Displacement) (m : List ℕ) where
  -- the card of the first record outside storage, and of the first with a field over 65535
  abbrev pub first_outside : Book → ℕ
  first_outside b = first_card (outside d (room_in m)) b.records

  abbrev pub first_over : Book → ℕ
  first_over b = first_card (over_field d) b.records

  pub data Why : LoadError → Type 0 where
    -- 50
    is_broken : book_of s ≡ None → Why LoadError.Broken
    -- 51
    is_outside : (b : Book) → book_of s ≡ Some b → (first_outside b ≡ 0 → ⊥) → Why (LoadError.Outside (first_outside b))
    -- 52, of a field
    is_over : (b : Book) → book_of s ≡ Some b → first_outside b ≡ 0 → (first_over b ≡ 0 → ⊥) → Why (LoadError.Over (first_over b))
    -- 52, of the entry alone
    is_entry_over : (b : Book) → book_of s ≡ Some b → first_outside b ≡ 0 → first_over b ≡ 0 → entry_over d.0 b.entry ≡ true → Why (LoadError.Over 0)

  -- the answer and the storage
  pub data Load : Result Stored LoadError → List ℕ → Type 0 where
    is_refused : {why : LoadError} → Why why → Load (Err why) m
    is_stored : (b : Book) → book_of s ≡ Some b → first_outside b ≡ 0 → first_over b ≡ 0 → entry_over d.0 b.entry ≡ false
        → (at : Option Relocatable) → at ≡ moved_entry d b.entry → entry_fits at ≡ true → Load (stored_answer (bytes_stored b.records) at) (stored_all d b.records m)

  abbrev IsLoad : Loads → Type 0
  IsLoad x = Load x.answer x.storage

  module _ (b : Book) (f : book_of s ≡ Some b) (i : first_outside b ≡ 0) (u : first_over b ≡ 0) where
    entry-moved : (v : Relocatable) → b.entry ≡ Some v → (x : Option Relocatable) → x ≡ moved_by d v → IsLoad (judged_moved x d b.records m)
    entry-moved v n (Some w) q =
        let (is, low) = moved_to d v w q in
        let to : w ≡ record { 0 = v.0 + d.0 } = ap (λ (k : ℕ). record { 0 = k }) is in
        is_stored b f i u (ap (entry_over d.0) n ∙ le-ltb 65535 (v.0 + d.0) low) (Some w) (ap Some to ∙ ap (moved_entry d) (sym n)) (le-leb w.0 65535 (omega arith))
    entry-moved v n None q = is_refused (is_entry_over b f i u (ap (entry_over d.0) n ∙ lt-ltb 65535 (v.0 + d.0) (moved-over d v q)))

    entry-told : (x : Option Relocatable) → b.entry ≡ x → IsLoad (judged_entry x d b.records m)
    entry-told None n = is_stored b f i u (ap (entry_over d.0) n) None (ap (moved_entry d) (sym n)) refl
    entry-told (Some v) n = entry-moved v n (moved_by d v) refl

  pub load : IsLoad (loading s d m)
  unfolding loading judged
  load = first (book_of s) refl
    where
      book : (b : Book) → book_of s ≡ Some b → (x : Bool) → eqb (first_outside b) 0 ≡ x → (y : Bool) → eqb (first_over b) 0 ≡ y → IsLoad (judged b.entry d b.records m)
      book b f true p true q = rw (p, q) (entry-told b f (eqb-true (first_outside b) 0 p) (eqb-true (first_over b) 0 q) b.entry refl)
      book b f true p false q = rw (p, q) (is_refused (is_over b f (eqb-true (first_outside b) 0 p) (eqb-false (first_over b) 0 q)))
      book b f false p y q = rw p (is_refused (is_outside b f (eqb-false (first_outside b) 0 p)))

      first : (x : Option Book) → book_of s ≡ x → IsLoad (of_book x d m)
      first None f = is_refused (is_broken f)
      first (Some b) f = book b f (eqb (first_outside b) 0) refl (eqb (first_over b) 0) refl

  -- the storage is as it was, or the records of a book that lie inside it are stored
  pub storage-after : (P : List ℕ → Type 0) → P m → ((b : Book) → book_of s ≡ Some b → first_outside b ≡ 0 → P (stored_all d b.records m)) → P (loading s d m).storage
  storage-after P same put = go load
    where
      go : {a : Result Stored LoadError} {x : List ℕ} → Load a x → P x
      go (is_refused w) = same
      go (is_stored b f i u o at x l) = put b f i
