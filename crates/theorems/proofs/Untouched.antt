-- REFUSED MEANS UNTOUCHED (R21.2). Assembling (R15.5, R15.6): a refusal leaves the output, an accepted call leaves what is past the book; the work area is cleared,
-- but not by 1, 2 and 3. Loading (R17.3, R17.8): a refusal stores nothing, and what is behind 65,536 bytes stays.
-- Printing (R18.1, R18.2): a refusal is one line and nothing else.
use Rattle.values.specs.Tests.{pick}
use Rattle.values.proofs.Laws.{both_true, clash}
use Rattle.names.specs.Table.{zeroed}
use Rattle.book.specs.Book.{records_from, header_ok, entry_at, with_entry, book_of}
use Rattle.book.specs.Writing.{book_bytes, fair_all}
use Rattle.cards.specs.Source.{cards_of}
use Rattle.passes.specs.Assembly.{work_size, Outcome, refusal, assembling}
use Rattle.fields.specs.Fields.{moved_text}
use Rattle.fields.proofs.Laws.{moved_length}
use Rattle.load.specs.Load.{Outcome as LoadOutcome, stored, stored_all, bytes_stored, first_card, outside, room_in, loading}
use Rattle.load.proofs.Laws.{none-fails, inside_is, stored_ways}
use Rattle.print.specs.Print.{header_line, record_lines, refused50, refused57, lines_of, printed, where_room}
use Rattle.print.proofs.Laws.{header_length, no_room}
use Rattle.book.proofs.Written.{fair-first, read-fair}
use Rattle.std.specs.Prelude.{◌+◌, ◌≤◌, ◌<◌, ◌∷◌, ◌≡◌, ◌⊎◌, ◌++◌}
use Rattle.std.proofs.Common.{◌∙◌}
use Rattle.theorems.specs.Logic.{ℕ, zero, suc, List, [], refl, ap, inl, inr, arith, length, get_or, drop, set, length-set, sets, get_or-set_same, get_or-set_other, drop-set-lt, List-as-Memᴰ, List·Memᴰ·head, List·Memᴰ·tail, Bool, true, false, replicate, length-append, length-drop, length-replicate, get_or-replicate, List·getD-append, leb, le-ltb, lt-ltb, leb-true, length-sets, drop_at, Option, None, Some, Result}
use Rattle.theorems.specs.Types.{Displacement, Stored, LoadError, Assembled, Refused, Record, Book, Relocatable}
use Rattle.theorems.specs.Accepted.{made_answer}
use Rattle.theorems.specs.Judged.{stored_answer}
use Rattle.theorems.proofs.Numbers.{cards-number, cards_range}
use Rattle.theorems.proofs.Outcomes.{Way, way, made-way, out-after, work-after, Load, load, storage-after}

pub sets-other : (m : List ℕ) (at : ℕ) (vs : List ℕ) (i : ℕ) → (i < at) ⊎ (at + length vs ≤ i) → get_or (sets m at vs) i 0 ≡ get_or m i 0
sets-other m at [] i h = refl
sets-other m at (v ∷ vs) i (inl h) = sets-other (set m at v) (suc at) vs i (inl (omega arith)) ∙ get_or-set_other m at i v 0 (λ e. omega arith)
sets-other m at (v ∷ vs) i (inr h) = sets-other (set m at v) (suc at) vs i (inr (omega arith)) ∙ get_or-set_other m at i v 0 (λ e. omega arith)

-- what lies behind a place that the run does not reach
pub drop-sets : (m : List ℕ) (at : ℕ) (vs : List ℕ) (n : ℕ) → at + length vs ≤ n → drop n (sets m at vs) ≡ drop n m
drop-sets m at [] n h = refl
drop-sets m at (v ∷ vs) n h = drop-sets (set m at v) (suc at) vs n (omega arith) ∙ drop-set-lt n m at v (omega arith)

-- a run that has room is there afterwards
pub sets-there : (m : List ℕ) (at : ℕ) (vs : List ℕ) (i : ℕ) → i < length vs → at + length vs ≤ length m → get_or (sets m at vs) (at + i) 0 ≡ get_or vs i 0
sets-there m at [] i h room = absurd (omega arith)
sets-there m at (v ∷ vs) zero h room =
    let here : at + 0 ≡ at = omega arith in
    ap (λ n. get_or (sets (set m at v) (suc at) vs) n 0) here ∙ sets-other (set m at v) (suc at) vs at (inl (omega arith)) ∙ get_or-set_same m at v 0 (omega arith)
sets-there m at (v ∷ vs) (suc i) h room =
    let next : at + suc i ≡ suc at + i = omega arith in
    let size = length-set m at v in
    ap (λ n. get_or (sets (set m at v) (suc at) vs) n 0) next ∙ sets-there (set m at v) (suc at) vs i (omega arith) (omega arith)

-- ZERO IN FRONT, as it was behind

zeroed-front : (n : ℕ) (t : List ℕ) (i x : ℕ) → i < n → get_or (zeroed n t) i x ≡ 0
unfolding zeroed
zeroed-front n t i x h =
    let l : length {A = ℕ} (replicate n 0) ≡ n = length-replicate n 0 in
    List·getD-append (replicate n 0) (drop n t) x i (omega arith) ∙ get_or-replicate n i 0 x h

zeroed_beyond : (n : ℕ) (t : List ℕ) → drop n (zeroed n t) ≡ drop n t
unfolding zeroed
zeroed_beyond n t = drop_at (replicate n 0) (drop n t) n (length-replicate n 0)

zeroed-length : (n : ℕ) (t : List ℕ) → n ≤ length t → length (zeroed n t) ≡ length t
unfolding zeroed
zeroed-length n t h = simp (length-append, length-replicate, length-drop) (omega arith)

-- ASSEMBLING

module _ (width : ℕ) (source work out : List ℕ) where
  abbrev after : Outcome
  after = assembling width source work out

  -- the whole output is unchanged on a refusal
  pub refused_output : (number card : ℕ) → after.answer ≡ refusal number card → after.out ≡ out
  refused_output number card h = go (rw h at (way width source work out))
    where
      go : {n k : ℕ} {w o : List ℕ} → Way width source work out (refusal n k) w o → o ≡ out
      go (Way.at_once n l u) = refl
      go (Way.by_cards w f n k e) = refl
      go (Way.too_long_book w) = refl

  -- past the book it is unchanged
  pub past_the_book : (bytes names : ℕ) → after.answer ≡ made_answer bytes names → drop bytes after.out ≡ drop bytes out
  past_the_book bytes names h =
      let x = made-way width source work out bytes names h in
      ap (drop bytes) x.written ∙ drop-sets out 0 (book_bytes x.book) bytes (omega arith)

  -- the output keeps its length
  pub output_length : length after.out ≡ length out
  output_length = out-after width source work out (λ o. length o ≡ length out) refl (length-sets out 0)

  -- R15.6: 1, 2 and 3 leave the work area as it was
  pub early-work : (number card : ℕ) → after.answer ≡ refusal number card → number ≤ 3 → after.work ≡ work
  early-work number card h low = go (rw h at (way width source work out)) low
    where
      go : {n k : ℕ} {w o : List ℕ} → Way width source work out (refusal n k) w o → n ≤ 3 → w ≡ work
      go (Way.at_once n l u) low = refl
      go (Way.by_cards w f n k e) low = let high = (cards_range (cards_of width source) n k e).0 in absurd (omega arith)
      go (Way.too_long_book w) low = absurd (omega arith)

  -- after every other answer its first 8,192 bytes are zero
  pub late_work : ((number card : ℕ) → after.answer ≡ refusal number card → 3 < number) → (i x : ℕ) → i < work_size → get_or after.work i x ≡ 0
  late_work late i x h = go late (way width source work out)
    where
      go : {a : Result Assembled Refused} {w o : List ℕ} → ((number card : ℕ) → a ≡ refusal number card → 3 < number) → Way width source work out a w o → get_or w i x ≡ 0
      go late (Way.at_once n l u) = let high = late n 0 refl in absurd (omega arith)
      go late (Way.by_cards w f n k e) = zeroed-front work_size work i x h
      go late (Way.too_long_book w) = zeroed-front work_size work i x h
      go late (Way.whole w f n b e l) = zeroed-front work_size work i x h

  -- beyond them it never changes
  pub work_beyond : drop work_size after.work ≡ drop work_size work
  work_beyond = work-after width source work out (λ w. drop work_size w ≡ drop work_size work) refl (λ w. zeroed_beyond work_size work)

  pub work-length : length after.work ≡ length work
  work-length = work-after width source work out (λ w. length w ≡ length work) refl (λ w. zeroed-length work_size work w)

  -- R14.2: 9 to 24 with a card of the source, 9 with card 0 where there is no END, the others with card 0
  abbrev pub Refusal : ℕ → ℕ → Type 0
  Refusal number card =
      ((1 ≤ number) × (number ≤ 3) × (card ≡ 0)) ⊎ (((9 ≤ number) × (number ≤ 24) × (1 ≤ card) × (card ≤ length (cards_of width source)))
      ⊎ (((number ≡ 9) × (card ≡ 0)) ⊎ ((number ≡ 30) × (card ≡ 0))))

  pub refusal_numbers : (number card : ℕ) → after.answer ≡ refusal number card → Refusal number card
  refusal_numbers number card h = go (rw h at (way width source work out))
    where
      cards : (n k : ℕ) → ((9 ≤ n) × (n ≤ 24) × (1 ≤ k) × (k ≤ length (cards_of width source))) ⊎ ((n ≡ 9) × (k ≡ 0)) → Refusal n k
      cards n k (inl x) = inr (inl x)
      cards n k (inr x) = inr (inr (inl x))

      go : {n k : ℕ} {w o : List ℕ} → Way width source work out (refusal n k) w o → Refusal n k
      go (Way.at_once n l u) = inl (l, u, refl)
      go (Way.by_cards w f n k e) = cards n k (cards-number (cards_of width source) n k e)
      go (Way.too_long_book w) = inr (inr (inr (refl, refl)))

-- LOADING

module _ (d : Displacement) where
  -- a place that lies outside the text of every record, d higher
  abbrev pub OutsideAll : ℕ → List Record → Type 0
  OutsideAll i rs = (r : Record) → List-as-Memᴰ r rs → (i < r.address + d.0) ⊎ (r.address + d.0 + length r.text ≤ i)

  -- what holds of a store of a record's text, as long as it was, holds of the record stored
  stored-by : (P : List ℕ → Type 0) (r : Record) (m : List ℕ) → P m
      → (length (moved_text d r) ≡ length r.text → P (sets m (r.address + d.0) (moved_text d r))) → P (stored d r m)
  stored-by P r m same put = go (stored_ways d r m)
    where
      go : (stored d r m ≡ sets m (r.address + d.0) (moved_text d r)) ⊎ (stored d r m ≡ m) → P (stored d r m)
      go (inl e) = rw e (put (moved_length d r.text r.fields r.text))
      go (inr e) = rw e same

  pub stored_other : (rs : List Record) (m : List ℕ) (i : ℕ) → OutsideAll i rs → get_or (stored_all d rs m) i 0 ≡ get_or m i 0
  unfolding stored_all
  stored_other [] m i h = refl
  stored_other (r ∷ rs) m i h =
      stored_other rs (stored d r m) i (λ q x. h q (List·Memᴰ·tail x))
      ∙ stored-by (λ x. get_or x i 0 ≡ get_or m i 0) r m refl (λ e. sets-other m (r.address + d.0) (moved_text d r) i (rw e (h r (List·Memᴰ·head refl))))

  pub stored-size : (r : Record) (m : List ℕ) → length (stored d r m) ≡ length m
  stored-size r m = stored-by (λ x. length x ≡ length m) r m refl (λ e. length-sets m (r.address + d.0) (moved_text d r))

  stored-length : (rs : List Record) (m : List ℕ) → length (stored_all d rs m) ≡ length m
  unfolding stored_all
  stored-length [] m = refl
  stored-length (r ∷ rs) m = stored-length rs (stored d r m) ∙ stored-size r m

  -- where every record lies inside the room, nothing behind the room changes
  stored_beyond : (room : ℕ) (rs : List Record) (m : List ℕ) (last : ℕ) → fair_all last rs ≡ true → first_card (outside d room) rs ≡ 0 → (n : ℕ) → room ≤ n
      → drop n (stored_all d rs m) ≡ drop n m
  unfolding stored_all
  stored_beyond room [] m last f e n h = refl
  stored_beyond room (r ∷ rs) m last f e n h =
      let (is, others) = fair-first last r rs f in
      let (inside, rest) = none-fails (outside d room) r rs (omega arith) e in
      let ends = (inside_is d room r inside).1 in
      stored_beyond room rs (stored d r m) r.card others rest n h
      ∙ stored-by (λ x. drop n x ≡ drop n m) r m refl (λ e. drop-sets m (r.address + d.0) (moved_text d r) n (omega arith))

module _ (s : List ℕ) (d : Displacement) (m : List ℕ) where
  abbrev loaded : LoadOutcome
  loaded = loading s d m

  -- storage is unchanged on a refusal, 50, 51 and 52 alike
  pub refused-storage : ((bytes : ℕ) (at : Option Relocatable) → loaded.answer ≡ stored_answer bytes at → ⊥) → loaded.storage ≡ m
  refused-storage no-load = go no-load (load s d m)
    where
      go : {a : Result Stored LoadError} {x : List ℕ} → ((bytes : ℕ) (at : Option Relocatable) → a ≡ stored_answer bytes at → ⊥) → Load s d m a x → x ≡ m
      go none-stored (Load.is_refused w) = refl
      go none-stored (Load.is_stored b f i u o at x l) = absurd (none-stored (bytes_stored b.records) at refl)

  -- bytes behind 65,536 never change
  pub storage_beyond : drop 65536 loaded.storage ≡ drop 65536 m
  storage_beyond =
      storage-after s d m (λ x. drop 65536 x ≡ drop 65536 m) refl
      (λ b f i. stored_beyond d (room_in m) b.records m 0 (read-fair s b f) i 65536 (omega arith))

  -- bytes outside the place of every record of the book never change
  pub storage-other : (i : ℕ) → ((b : Book) → book_of s ≡ Some b → OutsideAll d i b.records) → get_or loaded.storage i 0 ≡ get_or m i 0
  storage-other i out = storage-after s d m (λ x. get_or x i 0 ≡ get_or m i 0) refl (λ b f j. stored_other d b.records m i (out b f))

  -- storage keeps its length
  pub storage-length : length loaded.storage ≡ length m
  storage-length = storage-after s d m (λ x. length x ≡ length m) refl (λ b f i. stored-length d b.records m)

-- PRINTING

-- R18.2: REFUSED 50 alone
pub printed_50 : (s : List ℕ) → length s ≤ 65536 → book_of s ≡ None → printed s ≡ refused50
unfolding printed
printed_50 s h e = rw (le-ltb 65536 (length s) h) (ap (lines_of s) e)

-- R18.1: REFUSED 57 for a longer input
pub printed_57 : (s : List ℕ) → 65536 < length s → printed s ≡ refused57
unfolding printed
printed_57 s h = rw (lt-ltb 65536 (length s) h)

-- a book's lines: the header's and one for each record
pub printed-book : (s : List ℕ) (b : Book) → length s ≤ 65536 → book_of s ≡ Some b → printed s ≡ header_line s ++ record_lines b.records
unfolding printed
printed-book s b h e = rw (le-ltb 65536 (length s) h) (ap (lines_of s) e)

-- they are longer than a refusal, so that what is printed tells whether the book was refused
pub told-apart : (s : List ℕ) (b : Book) → length s ≤ 65536 → book_of s ≡ Some b → length refused50 < length (printed s)
unfolding book_of header_ok
told-apart s b h e =
    let l = header_length s (go (header_ok s) refl e) in
    let n = length-append (header_line s) (record_lines b.records) in
    rw (printed-book s b h e) (omega arith)
  where
    go : (x : Bool) → header_ok s ≡ x → pick x (with_entry (entry_at s) (records_from (length s) s 8 0)) None ≡ Some b → 8 ≤ length s
    go true f e = leb-true 8 (length s) (both_true (leb 8 (length s)) _ f).0
    go false f e = clash (cc)

-- a lent buffer behind what is printed is as it was, and so is the whole of one that is too short
pub buffer_behind : (bytes m : List ℕ) → drop (length bytes) (where_room bytes m) ≡ drop (length bytes) m
unfolding where_room
buffer_behind bytes m = go (leb (length bytes) (length m))
  where
    go : (b : Bool) → drop (length bytes) (pick b (sets m 0 bytes) m) ≡ drop (length bytes) m
    go true = drop-sets m 0 bytes (length bytes) (omega arith)
    go false = refl

pub buffer_short : (bytes m : List ℕ) → length m < length bytes → where_room bytes m ≡ m
buffer_short bytes m h = no_room bytes m h
