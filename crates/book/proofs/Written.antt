-- Laws on what is written: how long it is, a header laid before records, and records each of which may follow the one before.
use Prim.Native.Nat.{ℕ, suc, ◌+◌, ◌-◌, ◌*◌, ◌≤◌, ◌<◌}
use mathlib.Core.List.{List, [], ◌∷◌}
use mathlib.Core.Path.{◌≡◌, refl, sym, ap, ◌∙◌}
use mathlib.Core.Bool.{Bool, true, false}
use Rattle.std.specs.Prelude.{Option, None, Some}
use native.Mathlib.Omega.{arith}
use lib.ListN.{length, set, length-append}
use lib.Seq.{sets, set_comm}
use Rattle.values.specs.Tests.{pick}
use Rattle.values.proofs.Laws.{clash, both_true, sets_append}
use Rattle.book.specs.Book.{Record, Book, fair, record_head, record_at, records_from, header_ok, entry_at, with_entry, book_of}
use Rattle.book.specs.Writing.{record_bytes, records_bytes, header_bytes, book_bytes, fair_all}
use Rattle.book.proofs.Laws.{Fair, fair-is, is-fair, fields-few}
use Rattle.book.proofs.Turns.{by-records}
use Rattle.values.specs.declared.Relocatable.{Relocatable}

-- LENGTHS

pub record_length_lem : (r : Record) → length (record_bytes r) ≡ record_head + length r.fields + length r.text
unfolding record_bytes
record_length_lem r = simp length-append (omega arith)

pub header_length : (rest : ℕ) (e : Option Relocatable) → length (header_bytes rest e) ≡ 8
header_length rest None = refl
header_length rest (Some v) = refl

pub book-length : (b : Book) → length (book_bytes b) ≡ 8 + length (records_bytes b.records)
unfolding book_bytes
book-length b =
    let x = records_bytes b.records in
    length-append (header_bytes (4 + length x) b.entry) x ∙ ap (λ n. n + length x) (header_length (4 + length x) b.entry)

-- RECORDS EACH OF WHICH MAY FOLLOW THE ONE BEFORE

pub fair-first : (last : ℕ) (r : Record) (rs : List Record) → fair_all last (r ∷ rs) ≡ true → Fair last r × (fair_all r.card rs ≡ true)
unfolding fair_all
fair-first last r rs e = let (a, b) = both_true (fair last r) (fair_all r.card rs) e in (fair-is last r a, b)

-- how long they are together: at most 391 bytes for each card, and at least one for each record
pub records-length : (rs : List Record) (last : ℕ) → fair_all last rs ≡ true → last ≤ 4000
    → (length (records_bytes rs) + 391 * last ≤ 1564000) × (length rs ≤ length (records_bytes rs))
unfolding records_bytes
records-length [] last e h = (omega arith, omega arith)
records-length (r ∷ rs) last e h =
    let (f, others) = fair-first last r rs e in
    let (a, b) = records-length rs r.card others f.card in
    let n = fields-few 0 (length r.text) r.fields f.inside (omega arith) in
    let short = f.short in
    let rise = f.rise in
    let l = record_length_lem r in
    let k = length-append (record_bytes r) (records_bytes rs) in
    (omega arith, omega arith)

-- the records that were read are such
from-fair : (n : ℕ) (s : List ℕ) (at last : ℕ) (rs : List Record) → records_from n s at last ≡ Some rs → fair_all last rs ≡ true
unfolding fair_all
from-fair n s = by-records s (λ at last rs. fair_all last rs ≡ true) (λ last. refl) (λ at last rest w ih. rw (is-fair last (record_at s at) w.is) ih) n

pub read-fair : (s : List ℕ) (b : Book) → book_of s ≡ Some b → fair_all 0 b.records ≡ true
unfolding book_of
read-fair s b h = go (header_ok s) (records_from (length s) s 8 0) refl h
  where
    go : (x : Bool) (o : Option (List Record)) → records_from (length s) s 8 0 ≡ o → pick x (with_entry (entry_at s) o) None ≡ Some b → fair_all 0 b.records ≡ true
    go true None f h = clash (cc)
    go true (Some rs) f h = let e : rs ≡ b.records = cc in rw (← e) (from-fair (length s) s 8 0 rs f)
    go false o f h = clash (cc)

-- A HEADER LAID BEFORE RECORDS THAT ARE THERE

-- stores apart from each other in either order
set_apart : (vs m : List ℕ) (i j u : ℕ) → i < j → set (sets m j vs) i u ≡ sets (set m i u) j vs
set_apart [] m i j u h = refl
set_apart (v ∷ vs) m i j u h = set_apart vs (set m j v) i (suc j) u (omega arith) ∙ ap (λ l. sets l (suc j) vs) (set_comm m j i v u (λ e. omega arith))

sets-apart : (us vs m : List ℕ) (i j : ℕ) → i + length us ≤ j → sets (sets m j vs) i us ≡ sets (sets m i us) j vs
sets-apart [] vs m i j h = refl
sets-apart (u ∷ us) vs m i j h = ap (λ l. sets l (suc i) us) (set_apart vs m i j u (omega arith)) ∙ sets-apart us vs (set m i u) (suc i) j (omega arith)

pub book-laid : (b : Book) (m p q : List ℕ) (size : ℕ) → p ≡ sets m 8 (records_bytes b.records) → size ≡ 8 + length (records_bytes b.records)
    → q ≡ sets p 0 (header_bytes (size - 4) b.entry) → q ≡ sets m 0 (book_bytes b)
unfolding book_bytes
book-laid b m p q size is long laid =
    let x = records_bytes b.records in
    let h = header_bytes (4 + length x) b.entry in
    let n : size - 4 ≡ 4 + length x = omega arith in
    let l = header_length (4 + length x) b.entry in
    let k : 8 ≡ 0 + length h = omega arith in
    laid ∙ ap (λ l. sets l 0 (header_bytes (size - 4) b.entry)) is ∙ ap (λ i. sets (sets m 8 x) 0 (header_bytes i b.entry)) n
    ∙ sets-apart h x m 0 8 (omega arith) ∙ ap (λ i. sets (sets m 0 h) i x) k ∙ sym (sets_append m 0 h x)
