-- DEMAND 3, of the calls. Two sources whose statement columns agree on every card but START's, where the name fields agree and the values are s and s + d;
-- each has its own work area and its own output, and both are accepted. Then both answers are the same, and for every storage loading the first book with d
-- and the second with 0 gives the same answer and the same storage, a refusal included, overlaid fields included.
use Rattle.std.specs.Prelude.{◌+◌, ◌∷◌, ◌≡◌}
use Rattle.std.proofs.Common.{◌∙◌}
use Rattle.theorems.specs.Logic.{ℕ, List, [], map, refl, sym, ap, Some, arith, take}
use Rattle.theorems.specs.Types.{Displacement, Record, Book}
use Rattle.book.specs.Book.{book_of}
use Rattle.cards.specs.Source.{cards_of}
use Rattle.fields.proofs.Laws.{moved_length}
use Rattle.load.specs.Load.{judged, of_book, loading}
use Rattle.passes.specs.Assembly.{assembling}
use Rattle.theorems.specs.Accepted.{made_answer}
use Rattle.theorems.specs.Sums.{total, record_length}
use Rattle.theorems.specs.Moved.{moved_record, SameButStart}
use Rattle.theorems.proofs.Readable.{call_readable}
use Rattle.theorems.proofs.Sums.{counts_of_call}
use Rattle.book.proofs.Written.{record_length_lem}
use Rattle.theorems.proofs.Moved.{same_names, book-raised, records-load}

-- a moved record is as long
moved-size : (d : Displacement) (rs : List Record) → total record_length (map (moved_record d) rs) ≡ total record_length rs
unfolding total
moved-size d [] = refl
moved-size d (r ∷ rs) =
    let m = moved_length d r.text r.fields r.text in
    let i = record_length_lem r in
    let j = record_length_lem (moved_record d r) in
    let ih = moved-size d rs in
    omega arith

-- loading bytes that read as a book
read-judged : (s : List ℕ) (b : Book) → book_of s ≡ Some b → (d : Displacement) (m : List ℕ) → loading s d m ≡ judged b.entry d b.records m
unfolding loading
read-judged s b e d m = ap (λ x. of_book x d m) e

pub demand_3 : (d : ℕ)
    (width : ℕ) (source work out : List ℕ) (bytes names : ℕ) → (assembling width source work out).answer ≡ made_answer bytes names
    → (width' : ℕ) (source' work' out' : List ℕ) (bytes' names' : ℕ) → (assembling width' source' work' out').answer ≡ made_answer bytes' names'
    → SameButStart d (cards_of width source) (cards_of width' source')
    → (bytes' ≡ bytes) × (names' ≡ names)
    × ((storage : List ℕ)
    → loading (take bytes (assembling width source work out).out) (record { 0 = d }) storage
    ≡ loading (take bytes' (assembling width' source' work' out').out) (record { 0 = 0 }) storage)
demand_3 d width source work out bytes names h width' source' work' out' bytes' names' k same =
    let (b, p, _, is) = call_readable width source work out bytes names h in
    let (c, q, _, is') = call_readable width' source' work' out' bytes' names' k in
    let (_, f, size, _) = counts_of_call width source work out bytes names h in
    let (_, g, size', _) = counts_of_call width' source' work' out' bytes' names' k in
    let raised = book-raised d _ _ same names names' _ _ f g in (
      size' ∙ ap (λ (x : Book). 8 + total record_length x.records) raised ∙ ap (λ n. 8 + n) (moved-size (record { 0 = d }) _) ∙ sym size,
      same_names d _ _ same names names' b c p q,
      λ storage. read-judged _ b is (record { 0 = d }) storage ∙ records-load d _ _ same names names' b c p q storage ∙ sym (read-judged _ c is' (record { 0 = 0 }) storage),
    )
