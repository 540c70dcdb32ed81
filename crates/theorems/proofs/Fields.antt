-- FIELDS (R21.4, R16.6, R16.9): for every card of an accepted source the list holds exactly the places of its two-byte values
-- that are relocatable, each once; every other byte of its text stays what it is.
use Rattle.std.specs.Prelude.{◌+◌, ◌≤◌, ◌<◌, ◌∷◌, ◌++◌, ◌≡◌, ◌⊎◌, ◌↔◌}
use Rattle.std.proofs.Common.{◌∙◌}
use Rattle.theorems.specs.Logic.{ℕ, zero, suc, List, [], map, List-as-Memᴰ, List·Memᴰ·cases-cons, List·Memᴰ·not-nil, Memᴰ·cast, List·Memᴰ·head, List·Memᴰ·tail, true, false, refl, sym, ap, subst, inl, inr, add-zero, arith, length, get_or, leb, sets, length-sets, leb-true, Option}
use Rattle.theorems.specs.Types.{Value, Relocatable as Place, Meaning, Displacement, Course, Record, Book, Piece, plain, value, made}
use Rattle.values.proofs.Laws.{both_true}
use Rattle.values.specs.Words.{word, two_bytes}
use Rattle.book.specs.Book.{fields_fit}
use Rattle.encode.specs.Pieces.{text_of, offsets_from, fields_of}
use Rattle.fields.specs.Fields.{field_in, moved_in, moved_text, over_in, over_field}
use Rattle.fields.proofs.Laws.{moved-low, moved-first, moved_none, moved_ways, under_first}
use Rattle.theorems.proofs.Texts.{some-text, fields_fit_lem}
use Rattle.theorems.proofs.Readable.{Source, accepted_source}
use Rattle.passes.specs.Two.{outset, step_two, card_pieces, record_of_pieces, with_record, card_records, book_from}
use Rattle.passes.specs.Assembly.{assembled}
use Rattle.theorems.specs.Grow.{behind, behind_two, look_in, counter_one, counter_two}
use Rattle.theorems.specs.Readable.{makes}
use Rattle.theorems.specs.Fields.{pieces_at, card_record, FieldAt, Apart}
use Rattle.theorems.specs.Raised.{raised_piece}
use Rattle.theorems.proofs.Grow.{same_counters}
use Rattle.theorems.proofs.Untouched.{sets-other, sets-there}

-- THE OFFSETS OF PIECES

-- a piece more in front: a plain byte, a value
behind-plain : (b : ℕ) (ps : List Piece) (n : ℕ) → FieldAt ps n → FieldAt (plain b ∷ ps) (n + 1)
unfolding text_of
behind-plain b ps n x =
    record { before = plain b ∷ x.before; place = x.place; behind = x.behind; pieces = ap (λ l. plain b ∷ l) x.pieces; bytes = omega arith }

behind-value : (v : Value) (ps : List Piece) (n : ℕ) → FieldAt ps n → FieldAt (value v ∷ ps) (n + 2)
unfolding text_of
behind-value v ps n x =
    record { before = value v ∷ x.before; place = x.place; behind = x.behind; pieces = ap (λ l. value v ∷ l) x.pieces; bytes = omega arith }

-- at every offset that is listed a relocatable value starts
listed-starts : (ps : List Piece) (at o : ℕ) → List-as-Memᴰ o (offsets_from at ps) → (n : ℕ) × (o ≡ at + n) × (FieldAt ps n)
unfolding offsets_from text_of
listed-starts [] at o h = absurd (List·Memᴰ·not-nil h)
listed-starts (plain b ∷ ps) at o h =
    let (n, e, x) = listed-starts ps (at + 1) o h in
    (n + 1, omega arith, behind-plain b ps n x)
listed-starts (value (Value.Absolute a) ∷ ps) at o h =
    let (n, e, x) = listed-starts ps (at + 2) o h in
    (n + 2, omega arith, behind-value (Value.Absolute a) ps n x)
listed-starts (value (Value.Relocatable a) ∷ ps) at o h = go (List·Memᴰ·cases-cons h) (listed-starts ps (at + 2) o)
  where
    go : (o ≡ at) ⊎ List-as-Memᴰ o (offsets_from (at + 2) ps) → (List-as-Memᴰ o (offsets_from (at + 2) ps) → (n : ℕ) × (o ≡ at + 2 + n) × (FieldAt ps n))
        → (n : ℕ) × (o ≡ at + n) × (FieldAt (value (Value.Relocatable a) ∷ ps) n)
    go (inl e) ih = (0, omega arith, record { before = []; place = a; behind = ps; pieces = refl; bytes = refl })
    go (inr m) ih =
        let (n, e, x) = ih m in
        (n + 2, omega arith, behind-value (Value.Relocatable a) ps n x)

-- every offset at which one starts is listed
starts-listed : (before : List Piece) (a : Place) (behind : List Piece) (at : ℕ)
    → List-as-Memᴰ (at + length (text_of before)) (offsets_from at (before ++ value (Value.Relocatable a) ∷ behind))
unfolding offsets_from text_of
starts-listed [] a behind at = List·Memᴰ·head {x = at} (omega arith)
starts-listed (plain b ∷ ps) a behind at = Memᴰ·cast (omega arith) (starts-listed ps a behind (at + 1))
starts-listed (value (Value.Absolute v) ∷ ps) a behind at = Memᴰ·cast (omega arith) (starts-listed ps a behind (at + 2))
starts-listed (value (Value.Relocatable v) ∷ ps) a behind at = List·Memᴰ·tail (Memᴰ·cast (omega arith) (starts-listed ps a behind (at + 2)))

-- an offset is listed if and only if a relocatable value starts there
pub fields_exact : (ps : List Piece) (o : ℕ) → List-as-Memᴰ o (fields_of ps) ↔ FieldAt ps o
fields_exact ps o = (there, back)
  where
    there : List-as-Memᴰ o (fields_of ps) → FieldAt ps o
    there h =
        let (n, e, x) = listed-starts ps 0 o h in
        let f : n ≡ o = omega arith in
        subst (FieldAt ps) f x

    back : FieldAt ps o → List-as-Memᴰ o (fields_of ps)
    back x =
        rw x.pieces (Memᴰ·cast (omega arith) (starts-listed x.before x.place x.behind 0))

-- R16.6: ascending by 2 or more, so each once, and inside the text
pub fields_ascend : (ps : List Piece) → fields_fit 0 (length (text_of ps)) (fields_of ps) ≡ true
fields_ascend ps = fields_fit_lem ps 0 0 (length (text_of ps)) (omega arith) (omega arith)

-- EVERY OTHER BYTE

-- loading adds the displacement to the listed fields: a byte that is in none of them stays, wherever the program goes
moved_other : (d : Displacement) (was os t : List ℕ) (i : ℕ) → Apart i os → get_or (moved_in d was os t) i 0 ≡ get_or t i 0
moved_other d was [] t i apart = ap (λ x. get_or x i 0) (moved_none d was t)
moved_other d was (o ∷ os) t i apart = go (moved_ways d was o os t) (λ x. moved_other d was os x i (λ p m. apart p (List·Memᴰ·tail m)))
  where
    put : List ℕ
    put = sets t o (two_bytes (word was o + d.0))

    go : (moved_in d was (o ∷ os) t ≡ moved_in d was os put) ⊎ (moved_in d was (o ∷ os) t ≡ moved_in d was os t)
        → ((x : List ℕ) → get_or (moved_in d was os x) i 0 ≡ get_or x i 0) → get_or (moved_in d was (o ∷ os) t) i 0 ≡ get_or t i 0
    go (inl e) ih = ap (λ x. get_or x i 0) e ∙ ih put ∙ sets-other t o (two_bytes (word was o + d.0)) i (apart o (List·Memᴰ·head refl))
    go (inr e) ih = ap (λ x. get_or x i 0) e ∙ ih t

pub other-bytes : (d : Displacement) (r : Record) (i : ℕ) → Apart i r.fields → get_or (moved_text d r) i 0 ≡ get_or r.text i 0
other-bytes d r i apart = moved_other d r.text r.fields r.text i apart

-- .. and where every value among the pieces is raised by d, a plain byte and an absolute value keep their bytes
not-apart : (at n : ℕ) → n < 2 → (at + n < at) ⊎ (at + 2 ≤ at + n) → ⊥
not-apart at n h (inl l) = omega arith
not-apart at n h (inr l) = omega arith

raised-behind : (d : ℕ) (ps : List Piece) (at i : ℕ) → Apart (at + i) (offsets_from at ps) → get_or (text_of (map (raised_piece d) ps)) i 0 ≡ get_or (text_of ps) i 0
unfolding text_of offsets_from
raised-behind d [] at i apart = refl
raised-behind d (plain b ∷ ps) at zero apart = refl
raised-behind d (plain b ∷ ps) at (suc i) apart = let e : at + suc i ≡ at + 1 + i = omega arith in raised-behind d ps (at + 1) i (rw e at apart)
raised-behind d (value (Value.Absolute a) ∷ ps) at zero apart = refl
raised-behind d (value (Value.Absolute a) ∷ ps) at (suc zero) apart = refl
raised-behind d (value (Value.Absolute a) ∷ ps) at (suc (suc i)) apart = let e : at + suc (suc i) ≡ at + 2 + i = omega arith in raised-behind d ps (at + 2) i (rw e at apart)
raised-behind d (value (Value.Relocatable a) ∷ ps) at zero apart = absurd (not-apart at 0 (omega arith) (apart at (List·Memᴰ·head refl)))
raised-behind d (value (Value.Relocatable a) ∷ ps) at (suc zero) apart = absurd (not-apart at 1 (omega arith) (apart at (List·Memᴰ·head refl)))
raised-behind d (value (Value.Relocatable a) ∷ ps) at (suc (suc i)) apart =
    let e : at + suc (suc i) ≡ at + 2 + i = omega arith in
    let later : Apart (at + suc (suc i)) (offsets_from (at + 2) ps) = λ o m. apart o (List·Memᴰ·tail m) in
    raised-behind d ps (at + 2) i (rw e at later)

pub raised-other : (d : ℕ) (ps : List Piece) (i : ℕ) → Apart i (fields_of ps) → get_or (text_of (map (raised_piece d) ps)) i 0 ≡ get_or (text_of ps) i 0
raised-other d ps i apart = let e : i ≡ 0 + i = omega arith in raised-behind d ps 0 i (rw e at apart)

-- EACH LISTED FIELD

-- offsets that fit are no lower than the least
fields-above : (least size : ℕ) (os : List ℕ) → fields_fit least size os ≡ true → (o : ℕ) → List-as-Memᴰ o os → least ≤ o
unfolding fields_fit
fields-above least size [] e o m = absurd (List·Memᴰ·not-nil m)
fields-above least size (p ∷ os) e o m =
    let (low, rest) = both_true (leb least p) _ e in
    let (inside, others) = both_true (leb (p + 2) size) _ rest in
    let a = leb-true least p low in
    go a (fields-above (p + 2) size os others o) (List·Memᴰ·cases-cons m)
  where
    go : least ≤ p → (List-as-Memᴰ o os → p + 2 ≤ o) → (o ≡ p) ⊎ List-as-Memᴰ o os → least ≤ o
    go a ih (inl e) = omega arith
    go a ih (inr x) = let b = ih x in omega arith

-- a value of two bytes, read where it was put
word-there : (t : List ℕ) (o n : ℕ) → o + 2 ≤ length t → n ≤ 65535 → word (sets t o (two_bytes n)) o ≡ n
unfolding word
word-there t o n room low =
    let here : o + 0 ≡ o = omega arith in
    let high = ap (λ i. get_or (sets t o (two_bytes n)) i 0) (sym here) ∙ sets-there t o (two_bytes n) 0 (omega arith) (omega arith) in
    let next = sets-there t o (two_bytes n) 1 (omega arith) (omega arith) in
    omega arith

-- a field that lies below the others, once it is put, stays
first_field : (d : Displacement) (was os t : List ℕ) (p size n : ℕ) → fields_fit (p + 2) size os ≡ true → p + 2 ≤ length t → n ≤ 65535
    → word (moved_in d was os (sets t p (two_bytes n))) p ≡ n
unfolding word
first_field d was os t p size n others room low =
    let a = moved_other d was os (sets t p (two_bytes n)) p (apart p (omega arith)) in
    let b = moved_other d was os (sets t p (two_bytes n)) (p + 1) (apart (p + 1) (omega arith)) in
    let c = word-there t p n room low in
    omega arith
  where
    apart : (i : ℕ) → i < p + 2 → Apart i os
    apart i h q x = let a = fields-above (p + 2) size os others q x in inl (omega arith)

moved_field_lem : (d : Displacement) (was os t : List ℕ) (least size : ℕ) → fields_fit least size os ≡ true → size ≤ length t → over_in d was os ≡ false
    → (o : ℕ) → List-as-Memᴰ o os → word (moved_in d was os t) o ≡ word was o + d.0
unfolding fields_fit
moved_field_lem d was [] t least size e room u o m = absurd (List·Memᴰ·not-nil m)
moved_field_lem d was (p ∷ os) t least size e room u o m =
    let (low, rest) = both_true (leb least p) _ e in
    let (inside, others) = both_true (leb (p + 2) size) _ rest in
    let ends = leb-true (p + 2) size inside in
    let (here, under) = under_first d was p os u in
    let same = length-sets t p (two_bytes (word was p + d.0)) in
    let moved = moved-first d was p os t _ (moved-low d (field_in was p) here) in
    ap (λ x. word x o) moved ∙ go others (omega arith) here (moved_field_lem d was os _ (p + 2) size others (omega arith) under) (List·Memᴰ·cases-cons m)
  where
    put : List ℕ
    put = sets t p (two_bytes (word was p + d.0))

    go : fields_fit (p + 2) size os ≡ true → p + 2 ≤ length t → word was p + d.0 ≤ 65535 → ((o : ℕ) → List-as-Memᴰ o os → word (moved_in d was os put) o ≡ word was o + d.0)
        → (o ≡ p) ⊎ List-as-Memᴰ o os → word (moved_in d was os put) o ≡ word was o + d.0
    go others inside here ih (inl e) = rw e (first_field d was os t p size (word was p + d.0) others inside here)
    go others inside here ih (inr x) = ih o x

-- the displacement is added to each listed field
pub field_moved : (d : Displacement) (r : Record) → fields_fit 0 (length r.text) r.fields ≡ true → over_field d r ≡ false
    → (o : ℕ) → List-as-Memᴰ o r.fields → word (moved_text d r) o ≡ word r.text o + d.0
field_moved d r fit u o m = moved_field_lem d r.text r.fields r.text 0 (length r.text) fit (omega arith) u o m

-- THE RECORDS OF THE CARDS

module _ (look : ℕ → Option Meaning) (r : Record) where
  with_record_lem : (k address : ℕ) (ps : List Piece) (rest : List Record)
      → List-as-Memᴰ r (with_record k address ps rest) ↔ (((1 ≤ length (text_of ps)) × (r ≡ record_of_pieces k address ps)) ⊎ List-as-Memᴰ r rest)
  unfolding text_of
  with_record_lem k address [] rest = (inr, back)
    where
      back : ((1 ≤ 0) × (r ≡ record_of_pieces k address [])) ⊎ List-as-Memᴰ r rest → List-as-Memᴰ r rest
      back (inl (h, e)) = absurd (omega arith)
      back (inr m) = m
  with_record_lem k address (p ∷ ps) rest = (λ m. there (List·Memᴰ·cases-cons m), back)
    where
      there : (r ≡ record_of_pieces k address (p ∷ ps)) ⊎ List-as-Memᴰ r rest → ((1 ≤ length (text_of (p ∷ ps))) × (r ≡ record_of_pieces k address (p ∷ ps))) ⊎ List-as-Memᴰ r rest
      there (inl e) = inl (some-text p ps, e)
      there (inr m) = inr m

      back : ((1 ≤ length (text_of (p ∷ ps))) × (r ≡ record_of_pieces k address (p ∷ ps))) ⊎ List-as-Memᴰ r rest → List-as-Memᴰ r (record_of_pieces k address (p ∷ ps) ∷ rest)
      back (inl (h, e)) = List·Memᴰ·head e
      back (inr m) = List·Memᴰ·tail m

  -- r is the record of a card with text, i cards on from card k
  abbrev Of : List (List ℕ) → ℕ → Course → Type 0
  Of ss k c =
      (i : ℕ) × (i < length ss) × (1 ≤ length (text_of (card_pieces look (behind_two look i c ss) (get_or ss i []))))
      × (r ≡ record_of_pieces (k + i) (behind_two look i c ss).counter (card_pieces look (behind_two look i c ss) (get_or ss i [])))

  records-are : (ss : List (List ℕ)) (k : ℕ) (c : Course) → List-as-Memᴰ r (card_records look k c ss) ↔ Of ss k c
  unfolding card_records behind
  records-are [] k c = (λ m. absurd (List·Memᴰ·not-nil m), λ x. let h = x.1 in absurd (omega arith))
  records-are (s ∷ ss) k c =
      let rest = records-are ss (k + 1) (step_two look c s) in
      let here = with_record_lem k c.counter (card_pieces look c s) (card_records look (k + 1) (step_two look c s) ss) in
      (λ m. there rest.0 (here.0 m), λ x. here.1 (back rest.1 x))
    where
      First : Type 0
      First = (1 ≤ length (text_of (card_pieces look c s))) × (r ≡ record_of_pieces k c.counter (card_pieces look c s))

      Rest : Type 0
      Rest = List-as-Memᴰ r (card_records look (k + 1) (step_two look c s) ss)

      at : ℕ → ℕ → Record
      at i n = record_of_pieces n (behind_two look i (step_two look c s) ss).counter (card_pieces look (behind_two look i (step_two look c s) ss) (get_or ss i []))

      next : (i : ℕ) → k + 1 + i ≡ k + suc i
      next i = omega arith

      there : (Rest → Of ss (k + 1) (step_two look c s)) → First ⊎ Rest → Of (s ∷ ss) k c
      there rest (inl (h, e)) = (0, omega arith, h, e ∙ ap (λ n. record_of_pieces n c.counter (card_pieces look c s)) (sym (add-zero k)))
      there rest (inr m) = let (i, l, h, e) = rest m in (suc i, omega arith, h, e ∙ ap (at i) (next i))

      back : (Of ss (k + 1) (step_two look c s) → Rest) → Of (s ∷ ss) k c → First ⊎ Rest
      back rest (zero, l, h, e) = inl (h, e ∙ ap (λ n. record_of_pieces n c.counter (card_pieces look c s)) (add-zero k))
      back rest (suc i, l, h, e) = inr (rest (i, omega arith, h, e ∙ sym (ap (at i) (next i))))

-- THE THEOREM, of an accepted source

module _ (ss : List (List ℕ)) (n : ℕ) (b : Book) (h : assembled ss ≡ made n b) where
  -- R16.3: a record stands in the book if and only if it is that of a card that makes a byte
  pub records_exact : (r : Record)
      → List-as-Memᴰ r b.records ↔ ((k : ℕ) × (k < length ss) × (1 ≤ makes (get_or ss k [])) × (r ≡ card_record ss k))
  unfolding book_from
  records_exact r = (there, back)
    where
      x : Source ss n b
      x = accepted_source ss n b h

      are : b.records ≡ card_records (look_in ss) 1 outset ss
      are = ap (λ (x : Book). x.records) x.book

      is : (k : ℕ) → record_of_pieces (1 + k) (counter_two ss k) (pieces_at ss k) ≡ card_record ss k
      is k =
          let m : 1 + k ≡ suc k = omega arith in
          ap (λ x. record_of_pieces x (counter_two ss k) (pieces_at ss k)) m ∙ ap (λ x. record_of_pieces (suc k) x (pieces_at ss k)) (same_counters ss x.end x.one k)

      there : List-as-Memᴰ r b.records → (k : ℕ) × (k < length ss) × (1 ≤ makes (get_or ss k [])) × (r ≡ card_record ss k)
      there m =
          let (k, l, some, e) = (records-are (look_in ss) r ss 1 outset).0 (subst (List-as-Memᴰ r) are m) in
          let size = (x.sized k l).1 in
          (k, l, omega arith, e ∙ is k)

      back : (k : ℕ) × (k < length ss) × (1 ≤ makes (get_or ss k [])) × (r ≡ card_record ss k) → List-as-Memᴰ r b.records
      back (k, l, some, e) =
          let size = (x.sized k l).1 in
          subst (List-as-Memᴰ r) (sym are) ((records-are (look_in ss) r ss 1 outset).1 (k, l, omega arith, e ∙ sym (is k)))

  -- the field list of each card's record: exactly the offsets at which a relocatable value of its text starts, ascending by at least 2, so each once
  pub card-fields : (k : ℕ) → k < length ss → 1 ≤ makes (get_or ss k [])
      → (r : Record) × (List-as-Memᴰ r b.records) × (r.card ≡ suc k) × (r.address ≡ counter_one ss k) × (r.text ≡ text_of (pieces_at ss k))
      × ((o : ℕ) → List-as-Memᴰ o r.fields ↔ FieldAt (pieces_at ss k) o) × (fields_fit 0 (length r.text) r.fields ≡ true)
  card-fields k l some =
      (card_record ss k, (records_exact (card_record ss k)).1 (k, l, some, refl), refl, refl, refl, fields_exact (pieces_at ss k), fields_ascend (pieces_at ss k))
