-- LOADED (R21.3, R17.2). Each byte of a record's moved text is in storage at its place plus the displacement,
-- where no later record overlays it; every other place is as it was (`storage-other`).
use Rattle.std.specs.Prelude.{◌+◌, ◌≤◌, ◌<◌, ◌∷◌, ◌++◌, ◌≡◌}
use Rattle.std.proofs.Common.{◌∙◌}
use Rattle.theorems.specs.Logic.{ℕ, List, [], true, ap, arith, length, get_or, Option, Some}
use Rattle.theorems.specs.Types.{Displacement, Record, Book, Relocatable}
use Rattle.book.specs.Book.{book_of}
use Rattle.book.specs.Writing.{fair_all}
use Rattle.fields.specs.Fields.{moved_text}
use Rattle.fields.proofs.Laws.{moved_length}
use Rattle.load.specs.Load.{Outcome, stored, stored_all, first_card, outside, room_in, loading}
use Rattle.load.proofs.Laws.{none-fails, inside_is, stored_is}
use Rattle.theorems.proofs.Untouched.{sets-there, OutsideAll, stored-size, stored_other}
use Rattle.book.proofs.Written.{fair-first, read-fair}
use Rattle.theorems.specs.Judged.{stored_answer}
use Rattle.theorems.proofs.Outcomes.{Load, load}

-- THE BYTES OF A RECORD

stored-holds : (d : Displacement) (room : ℕ) (before : List Record) (r : Record) (later : List Record) (m : List ℕ) (last : ℕ)
    → fair_all last (before ++ r ∷ later) ≡ true → room ≤ length m → first_card (outside d room) (before ++ r ∷ later) ≡ 0
    → (i : ℕ) → i < length r.text → OutsideAll d (r.address + d.0 + i) later
    → get_or (stored_all d (before ++ r ∷ later) m) (r.address + d.0 + i) 0 ≡ get_or (moved_text d r) i 0
unfolding stored_all
stored-holds d room [] r later m last f low e i h out =
    let rise = (fair-first last r later f).0.rise in
    let (inside, rest) = none-fails (outside d room) r later (omega arith) e in
    let (at, ends) = inside_is d room r inside in
    let size = moved_length d r.text r.fields r.text in
    stored_other d later (stored d r m) (r.address + d.0 + i) out
    ∙ ap (λ x. get_or x (r.address + d.0 + i) 0) (stored_is d r m at) ∙ sets-there m (r.address + d.0) (moved_text d r) i (omega arith) (omega arith)
stored-holds d room (q ∷ before) r later m last f low e i h out =
    let (is, others) = fair-first last q (before ++ r ∷ later) f in
    let (inside, rest) = none-fails (outside d room) q (before ++ r ∷ later) (omega arith) e in
    let size = stored-size d q m in
    stored-holds d room before r later (stored d q m) q.card others (omega arith) rest i h out

module _ (s : List ℕ) (d : Displacement) (m : List ℕ) where
  abbrev loaded : Outcome
  loaded = loading s d m

  -- byte i of a record's text, the displacement added to its listed fields, is in storage at its place, where no later record overlays it
  pub storage-holds : (bytes : ℕ) (at : Option Relocatable) → loaded.answer ≡ stored_answer bytes at → (b : Book) → book_of s ≡ Some b
      → (before : List Record) (r : Record) (later : List Record) → b.records ≡ before ++ r ∷ later
      → (i : ℕ) → i < length r.text → OutsideAll d (r.address + d.0 + i) later
      → get_or loaded.storage (r.address + d.0 + i) 0 ≡ get_or (moved_text d r) i 0
  storage-holds bytes at a b q before r later rs i h out = go (rw a at (load s d m))
    where
      go : {bytes : ℕ} {at : Option Relocatable} {x : List ℕ} → Load s d m (stored_answer bytes at) x → get_or x (r.address + d.0 + i) 0 ≡ get_or (moved_text d r) i 0
      go (Load.is_stored c f j u o w x l) =
          let same : c ≡ b = cc in
          let are : c.records ≡ before ++ r ∷ later = ap (λ (x : Book). x.records) same ∙ rs in
          ap (λ x. get_or (stored_all d x m) (r.address + d.0 + i) 0) are
          ∙ stored-holds d (room_in m) before r later m 0 (rw are at (read-fair s c f)) (omega arith) (rw are at j) i h out
