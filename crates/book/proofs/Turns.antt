-- A loop over the records of a book: what is known of each record that the reader gives, and of the layout of those that are left.
use Prim.Native.Nat.{ℕ, zero, suc, ◌+◌, ◌-◌, ◌≤◌, ◌<◌}
use mathlib.Core.List.{List, [], ◌∷◌}
use mathlib.Core.Path.{◌≡◌, refl, sym, ap, subst, ◌∙◌}
use mathlib.Core.Bool.{Bool, true, false}
use Rattle.std.specs.Prelude.{Option, None, Some, Result, Ok, Err}
use native.Mathlib.Omega.{arith}
use lib.ListN.{length}
use lib.Dec.{eqb}
use borrow.Author.Tests.{eq-eqb, ne_eqb, eqb-true, eqb-false}
use Rattle.values.specs.Tests.{pick}
use Rattle.book.specs.declared.Broken.{Broken}
use Rattle.book.specs.declared.Cursor.{Cursor}
use Rattle.book.specs.declared.Place.{Place}
use Rattle.book.specs.Book.{Record, Book, records_from, onto, header_ok, entry_at, with_entry, book_of, record_head, count_at, record_at, record_ok, card_at, next_at}
use Rattle.book.specs.Reading.{step_at, place_at, behind, found, broken, record_there, header_of, layout_of, layout_in, records_or, records_in, Sound}
use Rattle.values.proofs.Laws.{clash, held, part_length}
use Rattle.book.proofs.Laws.{Whole as WholeAt, text-length, whole_is, fields-few, short_header}
use Rattle.values.specs.declared.Relocatable.{Relocatable}

-- WHAT THE READER'S ANSWER SAYS

module _ (s : List ℕ) (at last : ℕ) where
  pub step-is_record : (p : Place) (c : Cursor) → found p c ≡ step_at s at last → (at ≡ length s → ⊥) × (record_ok s at last ≡ true) × (p ≡ place_at s at) × (c ≡ behind s at)
  unfolding step_at
  step-is_record p c e = go (eqb at (length s)) (record_ok s at last) refl refl e
    where
      go : (a b : Bool) → eqb at (length s) ≡ a → record_ok s at last ≡ b → found p c ≡ pick a (Ok None) (pick b (found (place_at s at) (behind s at)) (Err broken))
          → (at ≡ length s → ⊥) × (record_ok s at last ≡ true) × (p ≡ place_at s at) × (c ≡ behind s at)
      go true b h k q = clash (cc)
      go false true h k q =
          let same : ◌≡◌ {A = Place × Cursor} (p, c) (place_at s at, behind s at) = cc in
          (eqb-false at (length s) h, k, ap (λ x. x.0) same, ap (λ x. x.1) same)
      go false false h k q = clash (cc)

  pub step-is-end : (Ok None) ≡ step_at s at last → at ≡ length s
  unfolding step_at
  step-is-end e = go (eqb at (length s)) (record_ok s at last) refl e
    where
      go : (a b : Bool) → eqb at (length s) ≡ a → (Ok None) ≡ pick a (Ok None) (pick b (found (place_at s at) (behind s at)) (Err broken)) → at ≡ length s
      go true b h q = eqb-true at (length s) h
      go false true h q = clash (cc)
      go false false h q = clash (cc)

  pub step-is_broken : (Err broken) ≡ step_at s at last → (at ≡ length s → ⊥) × (record_ok s at last ≡ false)
  unfolding step_at
  step-is_broken e = go (eqb at (length s)) (record_ok s at last) refl refl e
    where
      go : (a b : Bool) → eqb at (length s) ≡ a → record_ok s at last ≡ b → (Err broken) ≡ pick a (Ok None) (pick b (found (place_at s at) (behind s at)) (Err broken))
          → (at ≡ length s → ⊥) × (record_ok s at last ≡ false)
      go true b h k q = clash (cc)
      go false true h k q = clash (cc)
      go false false h k q = (eqb-false at (length s) h, k)

-- what is known of a record that the reader gave
pub record Gave (s : List ℕ) (at last : ℕ) (p : Place) (c : Cursor) : Type 0 where
  pub sound : Sound s p
  pub is : record_at s at ≡ record_there s p
  pub on : at < c.at
  pub within : c.at ≤ length s
  pub rise : last < p.card
  pub same : c.card ≡ p.card

pub gave : (s : List ℕ) (at last : ℕ) (p : Place) (c : Cursor) → found p c ≡ step_at s at last → Gave s at last p c
gave s at last p c e =
    let (n, ok, is-p, is_c) = step-is_record s at last p c e in
    let w = whole_is s at last ok in
    let f = w.is in
    let l = text-length s at last w.rest w.count in
    let n = part_length s (at + record_head) (count_at s at) (omega (arith, w.rest, w.count)) in
    let few : count_at s at ≤ 128 = let q = fields-few 0 (length (record_at s at).text) (record_at s at).fields f.inside (omega arith) in omega (arith, q, f.short) in
    rw (is-p, is_c)
    (record {
      sound = record {
        fields = omega (arith, w.rest, w.count);
        text = omega (arith, w.rest, w.count);
        long = omega arith;
        short = omega arith;
        few = few;
        card = (omega arith, omega arith);
        high = omega arith;
        inside = rw l at f.inside;
      };
      is = refl;
      on = omega arith;
      within = w.rest;
      rise = omega arith;
      same = refl;
    })

-- A TURN

module _ (s : List ℕ) (at last : ℕ) where
  pub turn_record : (f : ℕ) (p : Place) (c : Cursor) → found p c ≡ step_at s at last
      → records_from (suc f) s at last ≡ onto (record_there s p) (records_from f s c.at c.card)
  unfolding records_from
  turn_record f p c e =
      let (n, ok, is-p, is_c) = step-is_record s at last p c e in
      rw (ne_eqb _ _ n, ok, is-p, is_c)

  pub turn_end : (f : ℕ) → (Ok None) ≡ step_at s at last → records_from (suc f) s at last ≡ Some []
  unfolding records_from
  turn_end f e = rw (eq-eqb at (length s) (step-is-end s at last e))

  pub turn_broken : (f : ℕ) → (Err broken) ≡ step_at s at last → records_from f s at last ≡ None
  unfolding records_from
  turn_broken zero e = refl
  turn_broken (suc f) e = let (n, bad) = step-is_broken s at last e in rw (ne_eqb _ _ n, bad)

-- what holds at the end, and of a record with those behind it where it holds of these, holds of the records from a place on
pub by-records : (s : List ℕ) (P : ℕ → ℕ → List Record → Type 0) → ((last : ℕ) → P (length s) last [])
    → ((at last : ℕ) (rest : List Record) → WholeAt s at last → P (next_at s at) (card_at s at) rest → P at last (record_at s at ∷ rest))
    → (n at last : ℕ) (rs : List Record) → records_from n s at last ≡ Some rs → P at last rs
unfolding records_from
by-records s P end more zero at last rs h = clash (cc)
by-records s P end more (suc n) at last rs h =
    go (eqb at (length s)) refl (record_ok s at last) refl (records_from n s (next_at s at) (card_at s at)) (by-records s P end more n (next_at s at) (card_at s at)) h
  where
    go : (x : Bool) → eqb at (length s) ≡ x → (y : Bool) → record_ok s at last ≡ y → (o : Option (List Record)) → ((qs : List Record) → o ≡ Some qs → P (next_at s at) (card_at s at) qs)
        → pick x (Some []) (pick y (onto (record_at s at) o) None) ≡ Some rs → P at last rs
    go true e y f o ih h =
        let is : [] ≡ rs = cc in
        subst (P at last) is (subst (λ i. P i last []) (sym (eqb-true at (length s) e)) (end last))
    go false e true f None ih h = clash (cc)
    go false e true f (Some qs) ih h = let is : record_at s at ∷ qs ≡ rs = cc in subst (P at last) is (more at last qs (whole_is s at last f) (ih qs refl))
    go false e false f o ih h = clash (cc)

-- THE LAYOUT

pub layout_onto : (e : Option Relocatable) (r : Record) (o : Option (List Record)) → layout_in (with_entry e (onto r o)) ≡ layout_in (with_entry e o)
layout_onto e r None = refl
layout_onto e r (Some rs) = refl

-- the layout of the whole is that of what is left
abbrev pub LayoutLeft : List ℕ → Option Relocatable → ℕ → ℕ → Type 0
LayoutLeft s e at last = (f : ℕ) × (length s < f + at) × (layout_of s ≡ layout_in (with_entry e (records_from f s at last)))

module _ (s : List ℕ) where
  header_whole : (e : Option Relocatable) → Ok e ≡ header_of s → (header_ok s ≡ true) × (e ≡ entry_at s)
  header_whole e q = go (header_ok s) refl q
    where
      go : (b : Bool) → header_ok s ≡ b → Ok e ≡ pick b (Ok (entry_at s)) (Err broken) → (header_ok s ≡ true) × (e ≡ entry_at s)
      go true h k = (h, cc)
      go false h k = clash (cc)

  pub layout_start : (e : Option Relocatable) → Ok e ≡ header_of s → LayoutLeft s e 8 0
  unfolding layout_of book_of
  layout_start e q =
      let (ok, is) = header_whole e q in
      let long = held 8 (length s) (short_header s) ok in
      (length s, omega arith, rw (ok, is))

  pub layout_no_header : (Err broken) ≡ header_of s → (Err broken) ≡ layout_of s
  unfolding layout_of book_of
  layout_no_header q = go (header_ok s) refl q
    where
      go : (b : Bool) → header_ok s ≡ b → (Err broken) ≡ pick b (Ok (entry_at s)) (Err broken)
          → (Err broken) ≡ layout_in (pick b (with_entry (entry_at s) (records_from (length s) s 8 0)) None)
      go true h k = clash (cc)
      go false h k = refl

module _ (s : List ℕ) (e : Option Relocatable) (at last : ℕ) (l : LayoutLeft s e at last) where
  pub layout_more : (p : Place) (c : Cursor) → found p c ≡ step_at s at last → LayoutLeft s e c.at c.card
  layout_more p c q =
      let (f, enough, same) = l in
      let g = gave s at last p c q in
      let g-on = g.on in
      let g_within = g.within in
      let one : f ≡ suc (f - 1) = omega arith in (
        f - 1,
        omega arith,
        same ∙ ap (λ n. layout_in (with_entry e (records_from n s at last))) one ∙ ap (λ o. layout_in (with_entry e o)) (turn_record s at last (f - 1) p c q)
            ∙ layout_onto e (record_there s p) (records_from (f - 1) s c.at c.card),
      )

  pub layout_end : (Ok None) ≡ step_at s at last → Ok e ≡ layout_of s
  layout_end q =
      let (f, enough, same) = l in
      let there = step-is-end s at last q in
      let one : f ≡ suc (f - 1) = omega arith in
      sym (same ∙ ap (λ n. layout_in (with_entry e (records_from n s at last))) one ∙ ap (λ o. layout_in (with_entry e o)) (turn_end s at last (f - 1) q))

  pub layout_broken : (Err broken) ≡ step_at s at last → (Err broken) ≡ layout_of s
  layout_broken q =
      let (f, enough, same) = l in
      sym (same ∙ ap (λ o. layout_in (with_entry e o)) (turn_broken s at last f q))

-- A LOOP OVER THE RECORDS OF A BOOK THAT KEEPS ITS LAYOUT

-- the records from a place on are some records, of which P holds
abbrev pub Left : List ℕ → ℕ → ℕ → (List Record → Type 0) → Type 0
Left s at last P = (f : ℕ) × (rs : List Record) × (records_from f s at last ≡ Some rs) × P rs

out_of_bound : (s : List ℕ) (at last : ℕ) (rs : List Record) → records_from zero s at last ≡ Some rs → ⊥
unfolding records_from
out_of_bound s at last rs q = clash (cc)

-- THE BOOK OF A LAYOUT

pub book-none : (s : List ℕ) → (Err broken) ≡ layout_of s → book_of s ≡ None
unfolding layout_of
book-none s q = go (book_of s) q
  where
    go : (o : Option Book) → (Err broken) ≡ layout_in o → o ≡ None
    go None k = refl
    go (Some b) k = clash (cc)

module _ (s : List ℕ) (e : Option Relocatable) (q : Ok e ≡ layout_of s) where
  pub book-is : book_of s ≡ Some (record { entry = e; records = records_in s })
  unfolding layout_of records_in
  book-is = go (book_of s) refl q
    where
      go : (o : Option Book) → book_of s ≡ o → Ok e ≡ layout_in o → book_of s ≡ Some (record { entry = e; records = records_or (book_of s) })
      go None h k = clash (cc)
      go (Some b) h k = let x : e ≡ b.entry = cc in rw (h, x)

  pub long_enough : 8 ≤ length s
  unfolding book_of
  long_enough = go (header_ok s) refl book-is
    where
      go : (b : Bool) → header_ok s ≡ b → pick b (with_entry (entry_at s) (records_from (length s) s 8 0)) None ≡ Some (record { entry = e; records = records_in s }) → 8 ≤ length s
      go true h k = held 8 (length s) (short_header s) h
      go false h k = clash (cc)

  pub records-are : records_from (length s) s 8 0 ≡ Some (records_in s)
  unfolding book_of
  records-are = go (header_ok s) (records_from (length s) s 8 0) refl book-is
    where
      go : (b : Bool) (o : Option (List Record)) → records_from (length s) s 8 0 ≡ o → pick b (with_entry (entry_at s) o) None ≡ Some (record { entry = e; records = records_in s })
          → records_from (length s) s 8 0 ≡ Some (records_in s)
      go true None h k = clash (cc)
      go true (Some rs) h k =
          let same : ◌≡◌ {A = Book} (record { entry = entry_at s; records = rs }) (record { entry = e; records = records_in s }) = cc in
          h ∙ ap (λ (b : Book). Some b.records) same
      go false o h k = clash (cc)

  pub start : (P : List Record → Type 0) → P (records_in s) → Left s 8 0 P
  start P p = (length s, records_in s, records-are, p)

module _ (s : List ℕ) (at last : ℕ) (P : List Record → Type 0) (l : Left s at last P) where
  -- a record is there: it is the first of those left
  pub onward : (p : Place) (c : Cursor) (Q : List Record → Type 0) → found p c ≡ step_at s at last
      → ((rest : List Record) → P (record_there s p ∷ rest) → Q rest) → Left s c.at c.card Q
  onward p c Q q step = let (f, rs, is, holds) = l in go f rs is holds
    where
      there : (f : ℕ) (rs : List Record) (o : Option (List Record)) → records_from f s c.at c.card ≡ o → onto (record_there s p) o ≡ Some rs → P rs → Left s c.at c.card Q
      there f rs None h k holds = clash (cc)
      there f rs (Some rest) h k holds = (f, rest, h, step rest (subst P (cc) holds))

      go : (f : ℕ) (rs : List Record) → records_from f s at last ≡ Some rs → P rs → Left s c.at c.card Q
      go zero rs is holds = absurd (out_of_bound s at last rs is)
      go (suc f) rs is holds = there f rs (records_from f s c.at c.card) refl (sym (turn_record s at last f p c q) ∙ is) holds

  pub first : (p : Place) (c : Cursor) → found p c ≡ step_at s at last → (rest : List Record) × P (record_there s p ∷ rest)
  first p c q =
      let (f, rest, is, holds) = onward p c (λ rest. P (record_there s p ∷ rest)) q (λ rest h. h) in
      (rest, holds)

  pub ended : (Ok None) ≡ step_at s at last → P []
  ended q = let (f, rs, is, holds) = l in go f rs is holds
    where
      go : (f : ℕ) (rs : List Record) → records_from f s at last ≡ Some rs → P rs → P []
      go zero rs is holds = absurd (out_of_bound s at last rs is)
      go (suc f) rs is holds = subst P (cc (turn_end s at last f q)) holds

  pub never : (Err broken) ≡ step_at s at last → ⊥
  never q = let (f, rs, is, holds) = l in let e = turn_broken s at last f q in clash (cc)

  -- the reader gave none: it is the end
  pub no_record : (x : Result (Option (Place × Cursor)) Broken) → ((p : Place) (c : Cursor) → x ≡ found p c → ⊥) → x ≡ step_at s at last → P []
  no_record (Ok (Some (p, c))) n q = absurd (n p c refl)
  no_record (Ok None) n q = ended q
  no_record (Err _) n q = absurd (never q)
