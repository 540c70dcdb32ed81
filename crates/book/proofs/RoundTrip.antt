-- Reading what was written: the bytes of a book with fair records are that book again.
use Prim.Native.Nat.{ℕ, zero, suc, ◌+◌, ◌*◌, ◌/◌, ◌%◌, ◌≤◌, ◌<◌}
use mathlib.Core.List.{List, [], ◌∷◌, ◌++◌, append_assoc}
use mathlib.Core.Path.{◌≡◌, refl, sym, ap, ◌∙◌}
use mathlib.Core.Bool.{true}
use Rattle.std.specs.Prelude.{Some, Option, None}
use native.Mathlib.Omega.{arith}
use native.Mathlib.Nat.{add-zero}
use lib.ListN.{length, drop, length-append}
use lib.Seq.{drop-drop, drop-append_seam, take-append_seam, get_or-append-add}
use borrow.Author.Tests.{le-leb, eq-eqb, ne_eqb, leb-true}
use Rattle.values.specs.Words.{word, long, part}
use Rattle.values.proofs.Laws.{word-shift, part-shift, long_four}
use Rattle.book.specs.Book.{Record, Book, records_from, header_ok, entry_at, book_of, rest_head, record_head, rest_at, card_at, address_at, count_at, size_at, text_at, next_at, record_at, record_ok}
use Rattle.book.specs.Writing.{record_bytes, records_bytes, entry_bytes, header_bytes, entry_fits, book_bytes, fair_all}
use Rattle.book.proofs.Laws.{Fair, is_whole, fields-few}
use Rattle.book.proofs.Written.{record_length_lem, header_length, fair-first, records-length}
use Rattle.values.specs.declared.Relocatable.{Relocatable}

-- A RECORD BEHIND SOMETHING, AND SOMETHING BEHIND IT

module _ (last : ℕ) (r : Record) (f : Fair last r) (pre rest : List ℕ) where
  abbrev s : List ℕ
  s = pre ++ (record_bytes r ++ rest)

  abbrev at : ℕ
  at = length pre

  few : length r.fields ≤ 128
  few = let n = fields-few 0 (length r.text) r.fields f.inside (omega arith) in omega arith

  read : (n : ℕ) → word s (at + n) ≡ word (record_bytes r ++ rest) n
  read n = word-shift pre (record_bytes r ++ rest) n

  rest-is : rest_at s at ≡ rest_head + length r.fields + length r.text
  unfolding record_bytes word
  rest-is = let n = few in let short = f.short in ap (λ p. word s p) (sym (add-zero at)) ∙ read 0 ∙ omega arith

  card-is : card_at s at ≡ r.card
  unfolding record_bytes word
  card-is = let c = f.card in read 2 ∙ omega arith

  address_is : address_at s at ≡ r.address
  unfolding record_bytes word
  address_is = let h = f.high in let o = f.some in read 4 ∙ omega arith

  count-is : count_at s at ≡ length r.fields
  unfolding record_bytes
  count-is = rw (get_or-append-add pre (record_bytes r ++ rest) 6 0)

  size_is : size_at s at ≡ length r.text
  size_is = rw (rest-is, count-is) (omega arith)

  -- what stands behind the count of fields
  behind-count : drop record_head (record_bytes r ++ rest) ≡ r.fields ++ (r.text ++ rest)
  unfolding record_bytes
  behind-count = append_assoc r.fields r.text rest

  fields-are : part s (at + record_head) (count_at s at) ≡ r.fields
  fields-are = rw (count-is, part-shift pre (record_bytes r ++ rest) record_head, behind-count, take-append_seam)

  text-is : part s (text_at s at) (size_at s at) ≡ r.text
  text-is =
      let e : at + record_head + length r.fields ≡ at + (record_head + length r.fields) = omega arith in
      rw (size_is, count-is, e, part-shift pre (record_bytes r ++ rest) (record_head + length r.fields), ← drop-drop (length r.fields) record_head (record_bytes r ++ rest), behind-count, drop-append_seam, take-append_seam)

  record_is : record_at s at ≡ r
  record_is = rw (card-is, address_is, fields-are, text-is)

  next-is : next_at s at ≡ at + length (record_bytes r)
  next-is = rw (rest-is, record_length_lem r) (omega arith)

  whole : record_ok s at last ≡ true
  whole =
      let n = next-is in
      let m = length-append pre (record_bytes r ++ rest) in
      let k = length-append (record_bytes r) rest in
      is_whole s at last (record { rest = omega arith; count = rw (rest-is, count-is) (omega arith); is = rw record_is f })

-- ALL RECORDS

back : (rs : List Record) (pre : List ℕ) (last n : ℕ) → fair_all last rs ≡ true → length rs < n
    → records_from n (pre ++ records_bytes rs) (length pre) last ≡ Some rs
unfolding records_from records_bytes
back [] pre last zero e h = absurd (omega arith)
back [] pre last (suc n) e h =
    rw (eq-eqb (length pre) (length (pre ++ [])) (sym (length-append pre [] ∙ add-zero (length pre))))
back (r ∷ rs) pre last zero e h = absurd (omega arith)
back (r ∷ rs) pre last (suc n) e h =
    let (f, others) = fair-first last r rs e in
    let l = record_length_lem r in
    let m = length-append pre (record_bytes r ++ records_bytes rs) in
    let k = length-append (record_bytes r) (records_bytes rs) in
    let apart : length pre ≡ length (pre ++ (record_bytes r ++ records_bytes rs)) → ⊥ = λ q. omega arith in
    let step = back rs (pre ++ record_bytes r) r.card n others (omega arith) in
    let join = append_assoc pre (record_bytes r) (records_bytes rs) in
    let long = length-append pre (record_bytes r) in
    rw (ne_eqb _ _ apart, whole last r f pre (records_bytes rs), record_is last r f pre (records_bytes rs), next-is last r f pre (records_bytes rs), card-is last r f pre (records_bytes rs), ← long, ← join, step)

-- THE BOOK

-- the header in front of records of so many bytes
abbrev front : Option Relocatable → ℕ → List ℕ
front e n = header_bytes (4 + n) e

module _ (x : List ℕ) (short : length x ≤ 1564000) where
  -- the header keeps the layout, and its entry is read back
  front_ok : (e : Option Relocatable) → header_ok (front e (length x) ++ x) ≡ true
  unfolding header_ok word
  front_ok e = go e
    where
      size : (e : Option Relocatable) → length (front e (length x) ++ x) ≡ 8 + length x
      size e = length-append (front e (length x)) x ∙ ap (λ n. n + length x) (header_length (4 + length x) e)

      go : (e : Option Relocatable) → header_ok (front e (length x) ++ x) ≡ true
      go None =
          let l = size None in
          rw (le-leb 8 (length (front None (length x) ++ x)) (omega arith), eq-eqb (long (front None (length x) ++ x) 0 + 4) (length (front None (length x) ++ x)) (omega (arith, long_four (4 + length x) ((1 ∷ entry_bytes None) ++ x) (omega arith))))
      go (Some v) =
          let l = size (Some v) in
          rw (le-leb 8 (length (front (Some v) (length x) ++ x)) (omega arith), eq-eqb (long (front (Some v) (length x) ++ x) 0 + 4) (length (front (Some v) (length x) ++ x)) (omega (arith, long_four (4 + length x) ((1 ∷ entry_bytes (Some v)) ++ x) (omega arith))))

  front-entry : (e : Option Relocatable) → entry_fits e ≡ true → entry_at (front e (length x) ++ x) ≡ e
  unfolding entry_at word
  front-entry None f = refl
  front-entry (Some v) f =
      let h = leb-true v.0 65535 f in
      let w : v.0 / 256 % 256 * 256 + v.0 % 256 ≡ v.0 = omega arith in
      ap (λ n. Some (record { 0 = n })) w

-- reading what was written gives the same entry and records
pub round_trip : (b : Book) → entry_fits b.entry ≡ true → fair_all 0 b.records ≡ true → book_of (book_bytes b) ≡ Some b
unfolding book_of book_bytes
round_trip b fits fairs =
    let x = records_bytes b.records in
    let (short, many) = records-length b.records 0 fairs (omega arith) in
    let l = length-append (front b.entry (length x)) x in
    let k = header_length (4 + length x) b.entry in
    let records = back b.records (front b.entry (length x)) 0 (length (front b.entry (length x) ++ x)) fairs (omega arith) in
    rw (front_ok x (omega arith) b.entry, front-entry x (omega arith) b.entry fits, ← k, records)
