-- REFUSED EXACTLY WHEN, of a load (R21.3). R17.4: 50, then 51, then 52, each over the whole book.
-- R17.7, R17.8: 51 and 52 with the card of the first record that fails, 52 with 0 for the entry.
use Rattle.std.specs.Prelude.{◌∷◌, ◌≡◌, ◌⊎◌, ◌↔◌}
use Rattle.std.proofs.Common.{◌∙◌}
use Rattle.theorems.specs.Logic.{ℕ, List, [], List-as-Memᴰ, List·Memᴰ·cases-cons, List·Memᴰ·not-nil, List·Memᴰ·head, List·Memᴰ·tail, Bool, true, false, refl, sym, ap, inl, inr, arith, Option, None, Some, Result, Err}
use Rattle.theorems.specs.Types.{Displacement, Stored, LoadError, Record, Book, Relocatable}
use Rattle.book.specs.Book.{book_of}
use Rattle.book.specs.Writing.{fair_all}
use Rattle.fields.specs.Fields.{over_field}
use Rattle.load.specs.Load.{Outcome, bytes_stored, first_card, outside, room_in, of_book, loading}
use Rattle.load.proofs.Laws.{first_hit, first-miss, first-none, none-fails}
use Rattle.theorems.specs.Moved.{moved_entry}
use Rattle.book.proofs.Written.{fair-first, read-fair}
use Rattle.theorems.proofs.Outcomes.{Load, load, first_outside, first_over}
use Rattle.theorems.proofs.Outcomes.Why.{is_broken, is_outside, is_over, is_entry_over}
use Rattle.theorems.specs.Judged.{stored_answer, NoneFails, FirstFails, entry_over}

-- THE FIRST RECORD THAT FAILS A TEST

module _ (fails : Record → Bool) where
  none_before : NoneFails fails []
  none_before r m = absurd (List·Memᴰ·not-nil m)

  none_with : (r : Record) (rs : List Record) → fails r ≡ false → NoneFails fails rs → NoneFails fails (r ∷ rs)
  none_with r rs e others q m = go (List·Memᴰ·cases-cons m)
    where
      go : (q ≡ r) ⊎ List-as-Memᴰ q rs → fails q ≡ false
      go (inl f) = ap fails f ∙ e
      go (inr x) = others q x

  -- records of a book have cards from 1 on: 0 is no card, so that none fails
  none-failing : (rs : List Record) (last : ℕ) → fair_all last rs ≡ true → first_card fails rs ≡ 0 → NoneFails fails rs
  none-failing [] last f e = none_before
  none-failing (r ∷ rs) last f e =
      let (is, others) = fair-first last r rs f in
      let (passes, rest) = none-fails fails r rs (omega arith) e in
      none_with r rs passes (none-failing rs r.card others rest)

  no_card : (rs : List Record) → NoneFails fails rs → first_card fails rs ≡ 0
  no_card [] h = first-none fails
  no_card (r ∷ rs) h = first-miss fails r rs (h r (List·Memᴰ·head refl)) ∙ no_card rs (λ q m. h q (List·Memᴰ·tail m))

  first-failing : (rs : List Record) → (first_card fails rs ≡ 0 → ⊥) → FirstFails fails rs (first_card fails rs)
  first-failing [] n = absurd (n (first-none fails))
  first-failing (r ∷ rs) n = go (fails r) refl (first-failing rs)
    where
      go : (b : Bool) → fails r ≡ b → ((first_card fails rs ≡ 0 → ⊥) → FirstFails fails rs (first_card fails rs)) → FirstFails fails (r ∷ rs) (first_card fails (r ∷ rs))
      go true e ih = record { before = []; first = r; later = rs; records = refl; number = sym (first_hit fails r rs e); failing = e; others = none_before }
      go false e ih =
          let same = first-miss fails r rs e in
          let x = ih (λ z. n (same ∙ z)) in
          record {
            before = r ∷ x.before;
            first = x.first;
            later = x.later;
            records = ap (λ l. r ∷ l) x.records;
            number = x.number ∙ sym same;
            failing = x.failing;
            others = none_with r x.before e x.others;
          }

-- EACH ANSWER

module _ (s : List ℕ) (d : Displacement) (m : List ℕ) where
  abbrev loaded : Outcome
  loaded = loading s d m

  abbrev fails51 : Record → Bool
  fails51 = outside d (room_in m)

  abbrev fails52 : Record → Bool
  fails52 = over_field d

  -- 0 is the card of no record of a book that was read
  none_in : (fails : Record → Bool) (b : Book) → book_of s ≡ Some b → first_card fails b.records ≡ 0 → NoneFails fails b.records
  none_in fails b f e = none-failing fails b.records 0 (read-fair s b f) e

  -- 50 where the bytes are no book
  pub refused_50 : loaded.answer ≡ Err LoadError.Broken ↔ (book_of s ≡ None)
  unfolding loading
  refused_50 = (λ h. there (rw h at (load s d m)), λ h. ap (λ x. (of_book x d m).answer) h)
    where
      there : {x : List ℕ} → Load s d m (Err LoadError.Broken) x → book_of s ≡ None
      there (Load.is_refused (is_broken f)) = f

  -- 51 with the card of the first record whose text is outside storage
  pub refused_51 : (card : ℕ) → loaded.answer ≡ Err (LoadError.Outside card) → (b : Book) × (book_of s ≡ Some b) × (FirstFails fails51 b.records card)
  refused_51 card h = go (rw h at (load s d m))
    where
      go : {card : ℕ} {x : List ℕ} → Load s d m (Err (LoadError.Outside card)) x → (b : Book) × (book_of s ≡ Some b) × (FirstFails fails51 b.records card)
      go (Load.is_refused (is_outside b f n)) = (b, f, first-failing fails51 b.records n)

  -- 52, where no record is outside, with the card of the first record that has a field over 65535, or 0 for the entry alone
  pub refused_52 : (card : ℕ) → loaded.answer ≡ Err (LoadError.Over card)
      → (b : Book) × (book_of s ≡ Some b) × (NoneFails fails51 b.records)
      × (FirstFails fails52 b.records card ⊎ ((card ≡ 0) × (NoneFails fails52 b.records) × (entry_over d.0 b.entry ≡ true)))
  refused_52 card h = go (rw h at (load s d m))
    where
      go : {card : ℕ} {x : List ℕ} → Load s d m (Err (LoadError.Over card)) x
          → (b : Book) × (book_of s ≡ Some b) × (NoneFails fails51 b.records)
          × (FirstFails fails52 b.records card ⊎ ((card ≡ 0) × (NoneFails fails52 b.records) × (entry_over d.0 b.entry ≡ true)))
      go (Load.is_refused (is_over b f i n)) = (b, f, none_in fails51 b f i, inl (first-failing fails52 b.records n))
      go (Load.is_refused (is_entry_over b f i u o)) = (b, f, none_in fails51 b f i, inr (refl, none_in fails52 b f u, o))

  -- accepted if and only if the bytes are a book, no record is outside storage, and neither a field nor the entry is over 65535;
  -- then the answer is the bytes of its records and the entry plus the displacement
  pub load-accepted : (bytes : ℕ) (at : Option Relocatable)
      → loaded.answer ≡ stored_answer bytes at
      ↔ ((b : Book) × (book_of s ≡ Some b) × (NoneFails fails51 b.records) × (NoneFails fails52 b.records) × (entry_over d.0 b.entry ≡ false)
      × (bytes ≡ bytes_stored b.records) × (at ≡ moved_entry d b.entry))
  load-accepted bytes at = (λ h. there (rw h at (load s d m)), back)
    where
      Whole : ℕ → Option Relocatable → Type 0
      Whole bytes at =
          (b : Book) × (book_of s ≡ Some b) × (NoneFails fails51 b.records) × (NoneFails fails52 b.records) × (entry_over d.0 b.entry ≡ false)
          × (bytes ≡ bytes_stored b.records) × (at ≡ moved_entry d b.entry)

      there : {bytes : ℕ} {at : Option Relocatable} {x : List ℕ} → Load s d m (stored_answer bytes at) x → Whole bytes at
      there (Load.is_stored b f i u o at x l) = (b, f, none_in fails51 b f i, none_in fails52 b f u, o, refl, x)

      back : Whole bytes at → loaded.answer ≡ stored_answer bytes at
      back (b, f, inside, under, low, size, to) = go (load s d m)
        where
          go : {a : Result Stored LoadError} {x : List ℕ} → Load s d m a x → a ≡ stored_answer bytes at
          go (Load.is_refused (is_broken g)) = cc
          go (Load.is_refused (is_outside c g n)) =
              let same : c ≡ b = cc in
              absurd (n (ap (first_outside s d m) same ∙ no_card fails51 b.records inside))
          go (Load.is_refused (is_over c g i n)) =
              let same : c ≡ b = cc in
              absurd (n (ap (first_over s d m) same ∙ no_card fails52 b.records under))
          go (Load.is_refused (is_entry_over c g i u o)) = let same : c ≡ b = cc in cc
          go (Load.is_stored c g i u o w x l) = let same : c ≡ b = cc in cc
