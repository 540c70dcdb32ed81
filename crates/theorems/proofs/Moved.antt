-- MOVED IS RAISED (R21.4). Two decks whose statement columns agree on every card but START's, where the names agree and the values are s and s + d;
-- both are accepted. Then the counts of names agree, the second book is the first moved by d as the loader moves it,
-- and loading the first by d and the second by 0 gives the same answer and the same storage, for every storage: 51 and 52 included, overlaid fields included.
use Rattle.std.specs.Prelude.{◌+◌, ◌≤◌, ◌∷◌, ◌++◌, ◌≡◌}
use Rattle.std.proofs.Common.{◌∙◌}
use Rattle.theorems.specs.Logic.{tt, ℕ, List, map, List-as-Memᴰ, Memᴰ·map, true, refl, sym, ap, subst, arith, length, get_or, length-append, length-map, Option, None, Some, Result}
use Rattle.theorems.specs.Types.{Name, Shape, Record, Book, clean, State, through, made}
use Rattle.names.specs.Names.{find}
use Rattle.names.specs.Raised.{raised_name}
use Rattle.book.specs.Writing.{book_bytes, entry_fits}
use Rattle.passes.specs.One.{fresh, pass_one}
use Rattle.passes.specs.Two.{outset, check_two, card_records, entry_from, book_from}
use Rattle.passes.specs.Assembly.{assembled}
use Rattle.load.specs.Load.{judged, loading}
use Rattle.operations.specs.declared.traits.Pattern.TheVariants.{StartTerm}
use Rattle.forms.specs.Shape.{start_or}
use Rattle.forms.proofs.Laws.{ShapeIn, shape_in}
use Rattle.lines.specs.Lines.{operand_columns}
use Rattle.lines.proofs.Laws.{line_shape}
use Rattle.theorems.proofs.Lines.{Has, line_has}
use Rattle.theorems.specs.Fields.{Apart}
use Rattle.theorems.specs.Grow.{look_in}
use Rattle.theorems.specs.Raised.{raised_state}
use Rattle.fields.proofs.Laws.{moved_length}
use Rattle.theorems.specs.Moved.{moved_entry, moved_record, moved_book, Starting, SameButStart}
use Rattle.theorems.proofs.Readable.{accepted_source, entry-fits, loaded_as_made}
use Rattle.theorems.proofs.Fields.{other-bytes}
use Rattle.theorems.proofs.RaisedPasses.{AllUsual, pass-usual, pass-raised, cards-raised}
use Rattle.theorems.proofs.RaisedText.{RecordsRaised, records-moved, judged-same}
use Rattle.theorems.proofs.Started.{AllComments, card_behind, begun_one, begun_two, only-comments, one-behind, two-behind}

begun-raised : (d : ℕ) (name : Option ℕ) (at : ℕ) → begun_one name (at + d) ≡ raised_state d (begun_one name at)
begun-raised d (Some name) at = refl
begun-raised d None at = refl

-- the ends of pass one, the records and the entries of two such decks
module _ (d : ℕ) (before after : List (List ℕ)) (s t : List ℕ) (name : Option ℕ) (at : ℕ) (starts : Starting s name at) (starts' : Starting t name (at + d))
    (a e : State) (p : pass_one 1 fresh (before ++ s ∷ after) ≡ through a) (q : pass_one 1 fresh (before ++ t ∷ after) ≡ through e) where
  abbrev next : ℕ
  next = card_behind 1 before + 1

  abbrev up : List Name
  up = map (raised_name d) a.names

  comments : AllComments before
  comments = only-comments before s after name at starts a p

  from : pass_one next (begun_one name at) after ≡ through a
  from = one-behind before s after name at starts comments a p

  end-raised : e ≡ raised_state d a
  end-raised =
      pass-raised d after next (begun_one name at) a e tt from (rw (begun-raised d name at) at (one-behind before t after name (at + d) starts' comments e q))

  usual : AllUsual after
  usual = pass-usual after next (begun_one name at) a tt from

  deck_raised : check_two (find a.names) 1 outset (before ++ s ∷ after) ≡ clean → check_two (find e.names) 1 outset (before ++ t ∷ after) ≡ clean
      → (e.names ≡ up) × (RecordsRaised d (card_records (find a.names) 1 outset (before ++ s ∷ after)) (card_records (find e.names) 1 outset (before ++ t ∷ after)))
      × (entry_from (find e.names) outset (before ++ t ∷ after) ≡ moved_entry (record { 0 = d }) (entry_from (find a.names) outset (before ++ s ∷ after)))
  deck_raised p₂ q₂ =
      let names : e.names ≡ up = ap (λ (x : State). x.names) end-raised in
      let (lower, records, entry) = two-behind before s after name at starts comments (find a.names) in
      let (higher, records', entry') = two-behind before t after name (at + d) starts' comments (find e.names) in
      let (raised, same) = cards-raised d a.names after next (begun_two at) usual (lower p₂) (rw names at (higher q₂)) in
      (names, rw (records, records', names) raised, rw (entry, entry', names) same)

-- R17.1: d is a displacement, since both values are 16 bits
pub displacement_fits : (d : ℕ) (ss ts : List (List ℕ)) → SameButStart d ss ts → d ≤ 65535
displacement_fits d ss ts same =
    let x = same.starts_higher in
    let o = operand_columns same.second x.line in
    let shape = line_shape same.second x.line x.reads in
    let low = go o (rw x.operation at (line_has same.second x.line x.reads)) (rw (← shape) at (shape_in x.line.operation o)) in
    omega arith
  where
    go : (o : List ℕ) {x : Result Shape ℕ} → Has StartTerm x → ShapeIn o x → start_or x 0 ≤ 65535
    go o Has.fails w = omega arith
    go o Has.starts w = omega arith

-- THE THEOREM, of two such decks that are both accepted
module _ (d : ℕ) (ss ts : List (List ℕ)) (same : SameButStart d ss ts) (n m : ℕ) (b c : Book) (accepted : assembled ss ≡ made n b) (accepted' : assembled ts ≡ made m c) where
  deck_books : (m ≡ n) × (RecordsRaised d b.records c.records) × (c.entry ≡ moved_entry (record { 0 = d }) b.entry)
  unfolding book_from
  deck_books =
      let x = accepted_source ss n b accepted in
      let y = accepted_source ts m c accepted' in
      let (names, records, entry) =
      deck_raised d same.before same.after same.first same.second same.name same.start same.starts same.starts_higher
      x.end y.end (ap (pass_one 1 fresh) (sym same.lower) ∙ x.one) (ap (pass_one 1 fresh) (sym same.higher) ∙ y.one)
      (ap (check_two (find x.end.names) 1 outset) (sym same.lower) ∙ rw x.all at x.two) (ap (check_two (find y.end.names) 1 outset) (sym same.higher) ∙ rw y.all at y.two) in
      let f : b ≡ book_from (find x.end.names) (same.before ++ same.first ∷ same.after) = x.book ∙ ap (λ look. book_from look ss) x.all ∙ ap (book_from (find x.end.names)) same.lower in
      let g : c ≡ book_from (find y.end.names) (same.before ++ same.second ∷ same.after) = y.book ∙ ap (λ look. book_from look ts) y.all ∙ ap (book_from (find y.end.names)) same.higher in
      (y.count ∙ ap length names ∙ length-map x.end.names (raised_name d) ∙ sym x.count, rw (f, g) records, rw (f, g) entry)

  -- the counts of names agree
  pub same_names : m ≡ n
  same_names = deck_books.0

  -- the second book is the first, moved as the loader moves it: entry and addresses d higher, d added to the listed fields and to nothing else
  pub book-raised : c ≡ moved_book (record { 0 = d }) b
  book-raised = rw (← records-moved d b.records c.records deck_books.1, ← deck_books.2)

  -- loading the records of the first by d and those of the second by 0: the same answer, the same storage
  pub records-load : (storage : List ℕ) → judged b.entry (record { 0 = d }) b.records storage ≡ judged c.entry (record { 0 = 0 }) c.records storage
  unfolding book_from
  records-load storage =
      let fits : entry_fits c.entry ≡ true = rw (accepted_source ts m c accepted').book (entry-fits (look_in ts) ts outset) in
      rw deck_books.2 (judged-same d b.records c.records deck_books.1 storage b.entry (rw deck_books.2 at fits))

  -- R21.4: each record of the first book is there in the second, of the same card,
  -- with a text of the same length, and a byte of its text that is in no listed field is the same
  pub other-bytes_stay : (r : Record) → List-as-Memᴰ r b.records
      → (q : Record) × (List-as-Memᴰ q c.records) × (q.card ≡ r.card) × (q.fields ≡ r.fields) × (length q.text ≡ length r.text)
      × ((i : ℕ) → Apart i r.fields → get_or q.text i 0 ≡ get_or r.text i 0)
  other-bytes_stay r h =
      let here = subst (List-as-Memᴰ (moved_record (record { 0 = d }) r)) (sym (ap (λ (x : Book). x.records) book-raised)) (Memᴰ·map (moved_record (record { 0 = d })) h) in
      (moved_record (record { 0 = d }) r, here, refl, refl, moved_length (record { 0 = d }) r.text r.fields r.text, other-bytes (record { 0 = d }) r)

-- THE SAME OF THE BOOKS' BYTES, where there are at most 4,000 cards
pub moved-is-raised : (d : ℕ) (ss ts : List (List ℕ)) → SameButStart d ss ts → length ss ≤ 4000 → (n m : ℕ) (b c : Book)
    → assembled ss ≡ made n b → assembled ts ≡ made m c
    → (m ≡ n) × ((storage : List ℕ) → loading (book_bytes b) (record { 0 = d }) storage ≡ loading (book_bytes c) (record { 0 = 0 }) storage)
moved-is-raised d ss ts same few n m b c p q = (
  same_names d ss ts same n m b c p q,
  λ storage. loaded_as_made ss few n b p (record { 0 = d }) storage ∙ records-load d ss ts same n m b c p q storage ∙ sym (loaded_as_made ts few' m c q (record { 0 = 0 }) storage),
)
  where
    few' : length ts ≤ 4000
    few' =
        let i = ap length same.lower ∙ length-append same.before (same.first ∷ same.after) in
        let j = ap length same.higher ∙ length-append same.before (same.second ∷ same.after) in
        omega arith
