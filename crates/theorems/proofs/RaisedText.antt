-- Pieces and records raised by d: moving the listed fields of a text by d raises its pieces, and loading records by d comes to what loading those raised by d does.
use Rattle.std.specs.Prelude.{◌+◌, ◌%◌, ◌<◌, ◌∷◌, ◌++◌, ◌≡◌}
use Rattle.std.proofs.Common.{◌∙◌}
use Rattle.theorems.specs.Logic.{Unit, ℕ, List, [], map, append_assoc, false, true, refl, sym, ap, arith, add-zero, length, length-append, sets, Option, None, Some}
use Rattle.theorems.specs.Types.{Displacement, Value, Relocatable, Piece, plain, value, Record}
use Rattle.values.specs.Words.{word, two_bytes}
use Rattle.values.proofs.Laws.{word-shift}
use Rattle.values.specs.Values.{amount_of, moved_by}
use Rattle.encode.specs.Pieces.{text_of, offsets_from, fields_of}
use Rattle.fields.specs.Fields.{moved_in, over_in, over_field}
use Rattle.fields.proofs.Laws.{moved-low, over-later, moved-first, moved_none, moved_length}
use Rattle.book.specs.Writing.{entry_fits}
use Rattle.load.specs.Load.{stored, stored_all, bytes_stored, first_card, outside, room_in, accepted, judged_entry, judged}
use Rattle.load.proofs.Laws.{first-miss, first-none}
use Rattle.passes.specs.Two.{record_of_pieces}
use Rattle.theorems.specs.Raised.{raised_piece}
use Rattle.theorems.specs.Moved.{moved_record, moved_entry}

-- the word at the seam of two lists
word_seam : (pre : List ℕ) (a : ℕ) (rest : List ℕ) → word (pre ++ (two_bytes a ++ rest)) (length pre) ≡ a % 65536
unfolding word
word_seam pre a rest = ap (word (pre ++ (two_bytes a ++ rest))) (sym (add-zero (length pre))) ∙ word-shift pre (two_bytes a ++ rest) 0 ∙ omega arith

sets_seam : (pre : List ℕ) (a b : ℕ) (rest : List ℕ) → sets (pre ++ (two_bytes a ++ rest)) (length pre) (two_bytes b) ≡ pre ++ (two_bytes b ++ rest)
sets_seam [] a b rest = refl
sets_seam (x ∷ pre) a b rest = ap (λ l. x ∷ l) (sets_seam pre a b rest)

-- every value among the pieces is at most 65535
abbrev pub Low : List Piece → Type 0
Low [] = Unit {0}
Low (plain b ∷ ps) = Low ps
Low (value v ∷ ps) = (amount_of v < 65536) × Low ps

module _ (d : ℕ) where
  abbrev by : Displacement
  by = record { 0 = d }

  abbrev up : List Piece → List Piece
  up = map (raised_piece d)

  -- the fields stand where they stood
  pub fields_stay : (ps : List Piece) (at : ℕ) → offsets_from at (up ps) ≡ offsets_from at ps
  unfolding offsets_from
  fields_stay [] at = refl
  fields_stay (plain b ∷ ps) at = fields_stay ps (at + 1)
  fields_stay (value (Value.Absolute a) ∷ ps) at = fields_stay ps (at + 2)
  fields_stay (value (Value.Relocatable a) ∷ ps) at = ap (λ os. at ∷ os) (fields_stay ps (at + 2))

  -- behind w, of whose fields those before have been moved and stand in t: the fields of the pieces are moved, and none is over
  abbrev Behind : List Piece → List ℕ → List ℕ → Type 0
  Behind ps w t =
      length w ≡ length t → Low (up ps)
      → (moved_in by (w ++ text_of ps) (offsets_from (length w) ps) (t ++ text_of ps) ≡ t ++ text_of (up ps)) × (over_in by (w ++ text_of ps) (offsets_from (length w) ps) ≡ false)

  onward : (ps : List Piece) (w t us vs : List ℕ) → length w ≡ length t → length us ≡ length vs → Low (up ps) → Behind ps (w ++ us) (t ++ vs)
      → (moved_in by (w ++ (us ++ text_of ps)) (offsets_from (length w + length us) ps) (t ++ (vs ++ text_of ps)) ≡ t ++ (vs ++ text_of (up ps)))
      × (over_in by (w ++ (us ++ text_of ps)) (offsets_from (length w + length us) ps) ≡ false)
  onward ps w t us vs e f low ih =
      let a = length-append w us in
      let b = length-append t vs in
      rw (← append_assoc w us (text_of ps), ← append_assoc t vs (text_of ps), ← append_assoc t vs (text_of (up ps)), ← length-append w us)
      (ih (omega arith) low)

  moved-behind : (ps : List Piece) (w t : List ℕ) → Behind ps w t
  unfolding offsets_from text_of over_in
  moved-behind [] w t e low = (moved_none by (w ++ []) (t ++ []), refl)
  moved-behind (plain b ∷ ps) w t e low = onward ps w t (b ∷ []) (b ∷ []) e refl low (moved-behind ps (w ++ (b ∷ [])) (t ++ (b ∷ [])))
  moved-behind (value (Value.Absolute a) ∷ ps) w t e low =
      onward ps w t (two_bytes a.0) (two_bytes a.0) e refl low.1 (moved-behind ps (w ++ two_bytes a.0) (t ++ two_bytes a.0))
  moved-behind (value (Value.Relocatable a) ∷ ps) w t e (here, low) =
      let was = w ++ (two_bytes a.0 ++ text_of ps) in
      let os = offsets_from (length w + 2) ps in
      let seam = word_seam w a.0 (text_of ps) in
      let is : word was (length w) ≡ a.0 = omega arith in
      let to = moved-low by (record { 0 = word was (length w) }) (omega arith) in
      let (moved, under) = onward ps w t (two_bytes a.0) (two_bytes (a.0 + d)) e refl low (moved-behind ps (w ++ two_bytes a.0) (t ++ two_bytes (a.0 + d))) in (
        moved-first by was (length w) os (t ++ (two_bytes a.0 ++ text_of ps)) (record { 0 = word was (length w) + d }) to
            ∙ ap (λ n. moved_in by was os (sets (t ++ (two_bytes a.0 ++ text_of ps)) (length w) (two_bytes (n + d)))) is
            ∙ ap (λ n. moved_in by was os (sets (t ++ (two_bytes a.0 ++ text_of ps)) n (two_bytes (a.0 + d)))) e
            ∙ ap (moved_in by was os) (sets_seam t a.0 (a.0 + d) (text_of ps)) ∙ moved,
        over-later by was (length w) os (record { 0 = word was (length w) + d }) to ∙ under,
      )

  -- R17.2: the displacement added to the listed fields of a text makes the text of the pieces raised; and no field is over (52)
  pub moved-pieces : (ps : List Piece) → Low (up ps) → moved_in by (text_of ps) (fields_of ps) (text_of ps) ≡ text_of (up ps)
  moved-pieces ps low = (moved-behind ps [] [] refl low).0

  pub over-pieces : (ps : List Piece) → Low (up ps) → over_in by (text_of ps) (fields_of ps) ≡ false
  over-pieces ps low = (moved-behind ps [] [] refl low).1

-- raised by nothing, all stays
pub raised-by-none : (ps : List Piece) → map (raised_piece 0) ps ≡ ps
raised-by-none [] = refl
raised-by-none (plain b ∷ ps) = ap (λ qs. plain b ∷ qs) (raised-by-none ps)
raised-by-none (value (Value.Absolute a) ∷ ps) = ap (λ qs. value (Value.Absolute a) ∷ qs) (raised-by-none ps)
raised-by-none (value (Value.Relocatable a) ∷ ps) = rw (add-zero a.0) (ap (λ qs. value (Value.Relocatable a) ∷ qs) (raised-by-none ps))

module _ (d : ℕ) where
  abbrev shift : Displacement
  shift = record { 0 = d }

  abbrev still : Displacement
  still = record { 0 = 0 }

  -- record shift record: the same card, the address d higher, the pieces raised, each value among them at most 65535
  pub data RecordsRaised : List Record → List Record → Type 0 where
    none : RecordsRaised [] []
    more : (card address : ℕ) (ps : List Piece) → Low (map (raised_piece d) ps) → {rs qs : List Record} → RecordsRaised rs qs
        → RecordsRaised (record_of_pieces card address ps ∷ rs) (record_of_pieces card (address + d) (map (raised_piece d) ps) ∷ qs)

  pub records-moved : (rs qs : List Record) → RecordsRaised rs qs → qs ≡ map (moved_record shift) rs
  records-moved rs qs none = refl
  records-moved rs qs (more card address ps low {rs = rs'} {qs = qs'} r) = rw (fields_stay d ps 0, moved-pieces d ps low, records-moved rs' qs' r)

  text-length : (ps : List Piece) → Low (map (raised_piece d) ps) → length (text_of (map (raised_piece d) ps)) ≡ length (text_of ps)
  text-length ps low = ap length (sym (moved-pieces d ps low)) ∙ moved_length shift (text_of ps) (fields_of ps) (text_of ps)

  raised_stays : (ps : List Piece) → Low (map (raised_piece d) ps) → Low (map (raised_piece 0) (map (raised_piece d) ps))
  raised_stays ps low = rw (raised-by-none (map (raised_piece d) ps)) low

  -- 51
  outside-same : (room : ℕ) (rs qs : List Record) → RecordsRaised rs qs → first_card (outside shift room) rs ≡ first_card (outside still room) qs
  unfolding first_card moved_by
  outside-same room rs qs none = refl
  outside-same room rs qs (more card address ps low {rs = rs'} {qs = qs'} r) = rw (text-length ps low, add-zero (address + d), outside-same room rs' qs' r)

  -- 52
  none_over : (rs qs : List Record) → RecordsRaised rs qs → (first_card (over_field shift) rs ≡ 0) × (first_card (over_field still) qs ≡ 0)
  none_over rs qs none = (first-none (over_field shift), first-none (over_field still))
  none_over rs qs (more card address ps low {rs = rs'} {qs = qs'} r) =
      let up = map (raised_piece d) ps in
      let (one, other) = none_over rs' qs' r in (
        first-miss (over_field shift) (record_of_pieces card address ps) rs' (over-pieces d ps low) ∙ one,
        first-miss (over_field still) (record_of_pieces card (address + d) up) qs' (over-pieces 0 up (raised_stays ps low)) ∙ other,
      )

  bytes_same : (rs qs : List Record) → RecordsRaised rs qs → bytes_stored rs ≡ bytes_stored qs
  unfolding bytes_stored
  bytes_same rs qs none = refl
  bytes_same rs qs (more card address ps low {rs = rs'} {qs = qs'} r) = rw (text-length ps low, bytes_same rs' qs' r)

  stored_same : (rs qs : List Record) → RecordsRaised rs qs → (m : List ℕ) → stored_all shift rs m ≡ stored_all still qs m
  unfolding stored_all stored moved_by
  stored_same rs qs none m = refl
  stored_same rs qs (more card address ps low {rs = rs'} {qs = qs'} r) m =
      let up = map (raised_piece d) ps in
      rw (moved-pieces d ps low, moved-pieces 0 up (raised_stays ps low), raised-by-none up, add-zero (address + d)) (stored_same rs' qs' r _)

  module _ (rs qs : List Record) (r : RecordsRaised rs qs) (m : List ℕ) where
    accepted-same : (e : Option Relocatable) → accepted shift rs m e ≡ accepted still qs m e
    accepted-same e = rw (bytes_same rs qs r, stored_same rs qs r m)

    entry-same : (e : Option Relocatable) → entry_fits (moved_entry shift e) ≡ true → judged_entry e shift rs m ≡ judged_entry (moved_entry shift e) still qs m
    unfolding moved_by
    entry-same None h = accepted-same None
    entry-same (Some e) h = rw (add-zero (e.0 + d), h) (accepted-same (Some (record { 0 = e.0 + d })))

    -- answer and storage, whatever the storage is
    pub judged-same : (e : Option Relocatable) → entry_fits (moved_entry shift e) ≡ true → judged e shift rs m ≡ judged (moved_entry shift e) still qs m
    unfolding judged
    judged-same e h = rw (outside-same (room_in m) rs qs r, (none_over rs qs r).0, (none_over rs qs r).1, entry-same e h)
