-- Laws on the definitions of the book: one for each test that fails, one for all that pass, and back.
use Prim.Native.Nat.{ℕ, suc, ◌+◌, ◌-◌, ◌*◌, ◌≤◌, ◌<◌}
use mathlib.Core.List.{List, [], ◌∷◌}
use mathlib.Core.Path.{◌≡◌, refl}
use mathlib.Core.Bool.{Bool, true, false}
use native.Mathlib.Omega.{arith}
use lib.ListN.{length, take, drop}
use lib.Dec.{leb}
use borrow.Author.Tests.{lt-ltb, le-ltb, le-leb, lt-leb, eq-eqb, ne_eqb, leb-true}
use Rattle.std.specs.Prelude.{None, Ok, Err}
use Rattle.values.specs.Tests.{both}
use Rattle.values.specs.Words.{part}
use Rattle.values.proofs.Laws.{clash, held, both_false, both_true, part_length}
use Rattle.book.specs.Book.{header_ok, Record, fields_fit, fair, record_ok, rest_head, record_head, rest_at, card_at, address_at, count_at, size_at, text_at, next_at, record_at}
use Rattle.book.specs.Reading.{step_at, place_at, behind, found, broken}

-- THE HEADER

pub short_header : (s : List ℕ) → length s < 8 → header_ok s ≡ false
unfolding header_ok
short_header s h = rw (lt-leb _ _ h)

-- FIELDS

pub fields-low : (least size o : ℕ) (os : List ℕ) → o < least → fields_fit least size (o ∷ os) ≡ false
unfolding fields_fit
fields-low least size o os h = rw (lt-leb _ _ h)

pub fields_out : (least size o : ℕ) (os : List ℕ) → size < o + 2 → fields_fit least size (o ∷ os) ≡ false
unfolding fields_fit
fields_out least size o os h = simp (lt-leb _ _ h, both_false)

pub fields-more : (least size o : ℕ) (os : List ℕ) → least ≤ o → o + 2 ≤ size → fields_fit least size (o ∷ os) ≡ fields_fit (o + 2) size os
unfolding fields_fit
fields-more least size o os h k = rw (le-leb _ _ h, le-leb _ _ k)

pub fields-none : (least size : ℕ) → fields_fit least size [] ≡ true
unfolding fields_fit
fields-none least size = refl

-- offsets that fit are few
pub fields-few : (least size : ℕ) (os : List ℕ) → fields_fit least size os ≡ true → least ≤ size → least + 2 * length os ≤ size
unfolding fields_fit
fields-few least size [] e h = omega arith
fields-few least size (o ∷ os) e h =
    let (low, rest) = both_true (leb least o) _ e in
    let (in-text, others) = both_true (leb (o + 2) size) _ rest in
    let a = leb-true least o low in
    let b = leb-true (o + 2) size in-text in
    let c = fields-few (o + 2) size os others b in
    omega arith

-- A RECORD

module _ (last : ℕ) (r : Record) where
  pub unfair_rise : r.card ≤ last → fair last r ≡ false
  unfolding fair
  unfair_rise h = rw (le-ltb _ _ h)

  pub unfair_card : 4000 < r.card → fair last r ≡ false
  unfolding fair
  unfair_card h = simp (lt-leb _ _ h, both_false)

  pub unfair_none : length r.text < 1 → fair last r ≡ false
  unfolding fair
  unfair_none h = simp (lt-leb _ _ h, both_false)

  pub unfair_long : 256 < length r.text → fair last r ≡ false
  unfolding fair
  unfair_long h = simp (lt-leb _ _ h, both_false)

  pub unfair_high : 65536 < r.address + length r.text → fair last r ≡ false
  unfolding fair
  unfair_high h = simp (lt-leb _ _ h, both_false)

  pub unfair_fields : fields_fit 0 (length r.text) r.fields ≡ false → fair last r ≡ false
  unfolding fair
  unfair_fields h = simp (h, both_false)

  -- what a fair record is
  pub record Fair : Type 0 where
    pub rise : last < r.card
    pub card : r.card ≤ 4000
    pub some : 1 ≤ length r.text
    pub short : length r.text ≤ 256
    pub high : r.address + length r.text ≤ 65536
    pub inside : fields_fit 0 (length r.text) r.fields ≡ true

  pub is-fair : Fair → fair last r ≡ true
  unfolding fair
  is-fair f =
      rw (lt-ltb _ _ f.rise, le-leb _ _ f.card, le-leb _ _ f.some, le-leb _ _ f.short, le-leb _ _ f.high) f.inside

  pub fair-is : fair last r ≡ true → Fair
  fair-is e = record {
    rise = held (suc last) r.card (λ h. unfair_rise (omega arith)) e;
    card = held _ _ unfair_card e;
    some = held _ _ unfair_none e;
    short = held _ _ unfair_long e;
    high = held _ _ unfair_high e;
    inside = passed (fields_fit 0 (length r.text) r.fields) refl;
  }
    where
      passed : (b : Bool) → fields_fit 0 (length r.text) r.fields ≡ b → fields_fit 0 (length r.text) r.fields ≡ true
      passed true h = h
      passed false h = let q = unfair_fields h in clash (cc)

-- A RECORD AT A PLACE

module _ (s : List ℕ) (at last : ℕ) where
  pub text-length : next_at s at ≤ length s → rest_head + count_at s at ≤ rest_at s at → length (record_at s at).text ≡ size_at s at
  text-length h k = part_length s (text_at s at) (size_at s at) (omega arith)

  pub no_rest : length s < next_at s at → record_ok s at last ≡ false
  unfolding record_ok
  no_rest h = rw (lt-leb _ _ h)

  pub no_count : rest_at s at < rest_head + count_at s at → record_ok s at last ≡ false
  unfolding record_ok
  no_count h = simp (lt-leb _ _ h, both_false)

  -- where its parts are all there, the rest is a matter of the record
  pub by_record : (next_at s at ≤ length s → rest_head + count_at s at ≤ rest_at s at → fair last (record_at s at) ≡ false) → record_ok s at last ≡ false
  unfolding record_ok
  by_record n = go (leb (next_at s at) (length s)) (leb (rest_head + count_at s at) (rest_at s at)) refl refl
    where
      go : (a b : Bool) → leb (next_at s at) (length s) ≡ a → leb (rest_head + count_at s at) (rest_at s at) ≡ b → both a (both b (fair last (record_at s at))) ≡ false
      go true true h k = n (leb-true _ _ h) (leb-true _ _ k)
      go true false h k = refl
      go false b h k = refl

  pub no_head : length s < at + 8 → record_ok s at last ≡ false
  no_head h = by_record (λ a b. unfair_none last (record_at s at) (omega (arith, text-length a b)))

  pub no_text : rest_at s at ≤ rest_head + count_at s at → record_ok s at last ≡ false
  no_text h = by_record (λ a b. unfair_none last (record_at s at) (omega (arith, text-length a b)))

  pub too_long : 256 < size_at s at → record_ok s at last ≡ false
  too_long h = by_record (λ a b. unfair_long last (record_at s at) (omega (arith, text-length a b)))

  pub no_rise : card_at s at ≤ last → record_ok s at last ≡ false
  no_rise h = by_record (λ a b. unfair_rise last (record_at s at) h)

  pub no_card : 4000 < card_at s at → record_ok s at last ≡ false
  no_card h = by_record (λ a b. unfair_card last (record_at s at) h)

  pub too_high : 65536 < address_at s at + size_at s at → record_ok s at last ≡ false
  too_high h = by_record (λ a b. unfair_high last (record_at s at) (omega (arith, text-length a b)))

  pub no_fields : fields_fit 0 (size_at s at) (part s (at + record_head) (count_at s at)) ≡ false → record_ok s at last ≡ false
  no_fields h = by_record (λ a b. unfair_fields last (record_at s at) (rw (text-length a b) h))

  -- what a record in order at a place is
  pub record Whole : Type 0 where
    pub rest : next_at s at ≤ length s
    pub count : rest_head + count_at s at ≤ rest_at s at
    pub is : Fair last (record_at s at)

  pub is_whole : Whole → record_ok s at last ≡ true
  unfolding record_ok
  is_whole w = rw (le-leb _ _ w.rest, le-leb _ _ w.count) (is-fair last (record_at s at) w.is)

  pub whole_is : record_ok s at last ≡ true → Whole
  unfolding record_ok
  whole_is e = record {
    rest = held _ _ no_rest e;
    count = held _ _ no_count e;
    is = fair-is last (record_at s at) (passed (fair last (record_at s at)) refl);
  }
    where
      passed : (b : Bool) → fair last (record_at s at) ≡ b → fair last (record_at s at) ≡ true
      passed true h = h
      passed false h = let q = by_record (λ _ _. h) in clash (cc)

  -- every test passed
  pub all-passed : next_at s at ≤ length s → rest_head + count_at s at < rest_at s at → size_at s at ≤ 256 → last < card_at s at → card_at s at ≤ 4000
      → address_at s at + size_at s at ≤ 65536 → fields_fit 0 (size_at s at) (part s (at + record_head) (count_at s at)) ≡ true → record_ok s at last ≡ true
  all-passed rest count short rise card high inside =
      let n = text-length rest (omega arith) in
      is_whole (record {
        rest = rest;
        count = omega arith;
        is = record { rise = rise; card = card; some = omega arith; short = omega arith; high = omega arith; inside = rw n inside };
      })

  -- the offsets as they are lent to the test of the fields
  pub fields_lent : (rest count : ℕ) → rest ≡ rest_at s at → count ≡ count_at s at
      → fields_fit 0 (rest - (rest_head + count)) (take (at + record_head + count - (at + record_head)) (drop (at + record_head) s)) ≡ fields_fit 0 (size_at s at) (part s (at + record_head) (count_at s at))
  fields_lent rest count r n = let e : at + record_head + count_at s at - (at + record_head) ≡ count_at s at = omega arith in rw (r, n, e)

  -- what the reader answers

  pub step_end : at ≡ length s → (Ok None) ≡ step_at s at last
  unfolding step_at
  step_end h = rw (eq-eqb _ _ h)

  pub step_broken : (at ≡ length s → ⊥) → record_ok s at last ≡ false → (Err broken) ≡ step_at s at last
  unfolding step_at
  step_broken n e = rw (ne_eqb _ _ n, e)

  pub step_record : (at ≡ length s → ⊥) → record_ok s at last ≡ true → found (place_at s at) (behind s at) ≡ step_at s at last
  unfolding step_at
  step_record n e = rw (ne_eqb _ _ n, e)

  -- the record from the numbers that were read
  pub step-found : (rest card address count : ℕ) → rest ≡ rest_at s at → card ≡ card_at s at → address ≡ address_at s at → count ≡ count_at s at
      → (at ≡ length s → ⊥) → record_ok s at last ≡ true
      → found
      (record { card = card; address = record { 0 = address }; fields = at + record_head; count = count; text = at + record_head + count; size = rest - (rest_head + count) })
      (record { at = at + 2 + rest; card = card })
      ≡ step_at s at last
  step-found rest card address count r c a n h e = rw (r, c, a, n) (step_record h e)
