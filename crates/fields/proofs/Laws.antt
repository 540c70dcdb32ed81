-- Laws on the listed fields of a record: where they stand, and a turn of a loop over them.
use Prim.Native.Nat.{ℕ, zero, suc, ◌+◌, ◌≤◌, ◌<◌}
use mathlib.Core.List.{List, [], ◌∷◌}
use mathlib.Core.Path.{◌≡◌, refl, sym, ap, ◌∙◌}
use mathlib.Core.Bool.{true, false, ◌||◌}
use mathlib.Core.Logic.{◌⊎◌, inl, inr}
use native.Mathlib.Omega.{arith}
use lib.ListN.{length, get_or, drop, drop_of_length-le}
use lib.Dec.{leb}
use lib.Seq.{sets, length-sets}
use borrow.Author.Tests.{le-leb, leb-true}
use Rattle.values.specs.Tests.{either}
use Rattle.values.specs.Words.{word, two_bytes}
use Rattle.values.specs.Values.{moved_by}
use Rattle.values.specs.declared.Displacement.{Displacement}
use Rattle.values.specs.declared.Relocatable.{Relocatable}
use Rattle.values.proofs.Sums.{moved_to}
use Rattle.values.proofs.Laws.{clash, both_true, drop_turn, sets_over, sets-sets}
use Rattle.book.proofs.Places.{fields-length, text-length}
use Rattle.book.specs.Book.{Record, fields_fit}
use Rattle.book.specs.Reading.{record_there, Sound}
use Rattle.book.specs.Records.{record_of}
use Rattle.book.specs.declared.Place.{Place}
use Rattle.book.specs.declared.record.Record.{Record as Lent}
use Rattle.fields.specs.Fields.{field_in, with_field, is_over, moved_in, over_in, moved_text}
use Rattle.std.specs.Prelude.{Option, Some, None}
use Rattle.std.specs.List.{list_any}
use Rattle.std.specs.Option.{is_none}

-- each offset that fits has its two bytes inside the text
fits_each : (least size : ℕ) (os : List ℕ) → fields_fit least size os ≡ true → (k d : ℕ) → k < length os → get_or os k d + 2 ≤ size
unfolding fields_fit
fits_each least size [] e k d h = absurd (omega arith)
fits_each least size (o ∷ os) e zero d h =
    let (low, rest) = both_true (leb least o) _ e in
    let (inside, others) = both_true (leb (o + 2) size) _ rest in
    leb-true (o + 2) size inside
fits_each least size (o ∷ os) e (suc k) d h =
    let (low, rest) = both_true (leb least o) _ e in
    let (inside, others) = both_true (leb (o + 2) size) _ rest in
    fits_each (o + 2) size os others k d (omega arith)

-- so has each offset of a record
pub offset_inside : (r : Lent) (k d : ℕ) → k < length (record_of r).fields → get_or (record_of r).fields k d + 2 ≤ length (record_of r).text
offset_inside r k d h =
    let size = text-length r.book.now r.place r.sound in
    let fits = fits_each 0 r.place.size (record_of r).fields r.sound.inside k d h in
    omega arith

-- the offset at hand, as it is lent: it is the first of those left, and its field lies in the text
pub offset_turn : (r : Lent) (lent : List ℕ) (i o : ℕ) → lent ≡ (record_of r).fields → i < length lent → o ≡ get_or lent i 0
    → (drop i (record_of r).fields ≡ o ∷ drop (i + 1) (record_of r).fields) × (o + 2 ≤ length (record_of r).text)
offset_turn r lent i o same h e =
    let same-length = ap length same in
    let here = e ∙ ap (λ l. get_or l i 0) same in
    let fits = offset_inside r i 0 (omega arith) in
    (drop_turn (record_of r).fields i (omega arith) ∙ ap (λ x. x ∷ drop (i + 1) (record_of r).fields) (sym here), omega arith)

pub offsets_done : (r : Lent) (lent : List ℕ) (i : ℕ) → lent ≡ (record_of r).fields → length lent ≤ i → drop i (record_of r).fields ≡ []
offsets_done r lent i same h = let same-length = ap length same in drop_of_length-le (record_of r).fields {i = i} (omega arith)

module _ (s : List ℕ) (p : Place) (ok : Sound s p) where
  -- the offsets left, the one at hand first; and none left
  pub fields_left : (i o : ℕ) → i < p.count → o ≡ get_or (record_there s p).fields i 0 → drop i (record_there s p).fields ≡ o ∷ drop (i + 1) (record_there s p).fields
  fields_left i o h e =
      let n = fields-length s p ok in
      drop_turn (record_there s p).fields i (omega arith) ∙ ap (λ x. x ∷ drop (i + 1) (record_there s p).fields) (sym e)

  pub fields_done : (i : ℕ) → p.count ≤ i → drop i (record_there s p).fields ≡ []
  fields_done i h = let n = fields-length s p ok in drop_of_length-le (record_there s p).fields {i = i} (omega arith)

-- A SUM

-- a value and a displacement whose sum is low enough
pub moved-low : (d : Displacement) (v : Relocatable) → v.0 + d.0 ≤ 65535 → Some (record { 0 = v.0 + d.0 }) ≡ moved_by d v
unfolding moved_by
moved-low d v h = rw (le-leb _ _ h)

-- A TURN

module _ (d : Displacement) where
  pub over-here : (text : List ℕ) (o : ℕ) (os : List ℕ) → None ≡ moved_by d (field_in text o) → over_in d text (o ∷ os) ≡ true
  unfolding over_in
  over-here text o os e = rw (← e)

  pub over-later : (text : List ℕ) (o : ℕ) (os : List ℕ) (v : Relocatable) → Some v ≡ moved_by d (field_in text o) → over_in d text (o ∷ os) ≡ over_in d text os
  unfolding over_in
  over-later text o os v e = rw (← e)

  pub moved-first : (was : List ℕ) (o : ℕ) (os t : List ℕ) (v : Relocatable) → Some v ≡ moved_by d (field_in was o)
      → moved_in d was (o ∷ os) t ≡ moved_in d was os (sets t o (two_bytes v.0))
  unfolding moved_in
  moved-first was o os t v e = rw (← e)

  moved-over : (was : List ℕ) (o : ℕ) (os t : List ℕ) → None ≡ moved_by d (field_in was o) → moved_in d was (o ∷ os) t ≡ moved_in d was os t
  unfolding moved_in
  moved-over was o os t e = rw (← e)

  -- the first field gets its sum, or stays where the sum is over
  pub moved_ways : (was : List ℕ) (o : ℕ) (os t : List ℕ)
      → (moved_in d was (o ∷ os) t ≡ moved_in d was os (sets t o (two_bytes (word was o + d.0)))) ⊎ (moved_in d was (o ∷ os) t ≡ moved_in d was os t)
  unfolding moved_in
  moved_ways was o os t = go (moved_by d (field_in was o)) refl
    where
      go : (x : Option Relocatable) → x ≡ moved_by d (field_in was o)
          → (moved_in d was os (with_field x o t) ≡ moved_in d was os (sets t o (two_bytes (word was o + d.0)))) ⊎ (moved_in d was os (with_field x o t) ≡ moved_in d was os t)
      go (Some v) e = inl (ap (λ n. moved_in d was os (sets t o (two_bytes n))) (moved_to d (field_in was o) v e).0)
      go None e = inr refl

  -- where no field is over, the first isn't
  pub under_first : (text : List ℕ) (o : ℕ) (os : List ℕ) → over_in d text (o ∷ os) ≡ false → (word text o + d.0 ≤ 65535) × (over_in d text os ≡ false)
  unfolding over_in
  under_first text o os e = go (moved_by d (field_in text o)) refl e
    where
      go : (x : Option Relocatable) → x ≡ moved_by d (field_in text o) → either (is_over x) (over_in d text os) ≡ false → (word text o + d.0 ≤ 65535) × (over_in d text os ≡ false)
      go (Some v) q k = ((moved_to d (field_in text o) v q).1, k)
      go None q k = clash (cc)

  pub moved_none : (was t : List ℕ) → moved_in d was [] t ≡ t
  unfolding moved_in
  moved_none was t = refl

  field_length_lem : (v : Option Relocatable) (o : ℕ) (t : List ℕ) → length (with_field v o t) ≡ length t
  field_length_lem (Some v) o t = length-sets t o (two_bytes v.0)
  field_length_lem None o t = refl

  pub moved_length : (was os t : List ℕ) → length (moved_in d was os t) ≡ length t
  unfolding moved_in
  moved_length was [] t = refl
  moved_length was (o ∷ os) t =
      let v = moved_by d (field_in was o) in
      moved_length was os (with_field v o t) ∙ field_length_lem v o t

-- A TEXT IN A LARGER STORE, WHOSE FIELDS ARE MOVED ONE AFTER THE OTHER

-- m holds, from `to` on, the record's text with its fields moved but for those at the offsets os
abbrev pub Moving : List ℕ → ℕ → Displacement → Record → List ℕ → List ℕ → Type 0
Moving m₀ to d r os m =
    (t : List ℕ) × (m ≡ sets m₀ to t) × (length t ≡ length r.text) × (moved_text d r ≡ moved_in d r.text os t)

module _ (m₀ : List ℕ) (to : ℕ) (d : Displacement) (r : Record) (room : to + length r.text ≤ length m₀) where
  pub moving_start : (m : List ℕ) → m ≡ sets m₀ to r.text → Moving m to d r r.fields m
  moving_start m e =
      (r.text, e ∙ sym (sets_over m₀ to r.text r.text room refl) ∙ ap (λ l. sets l to r.text) (sym e), refl, refl)

  pub moving_turn : (o : ℕ) (os m m' : List ℕ) (v : Relocatable) → Moving m₀ to d r (o ∷ os) m → o + 2 ≤ length r.text → Some v ≡ moved_by d (field_in r.text o)
      → m' ≡ sets m (to + o) (two_bytes v.0) → Moving m₀ to d r os m'
  moving_turn o os m m' v (t, is, size, same) h e q = (
    sets t o (two_bytes v.0),
    q ∙ ap (λ l. sets l (to + o) (two_bytes v.0)) is ∙ sets-sets m₀ to t o (two_bytes v.0) (omega arith) (omega arith),
    length-sets t o (two_bytes v.0) ∙ size,
    same ∙ moved-first d r.text o os t v e,
  )

  -- a sum that is over leaves its field
  pub moving_kept : (o : ℕ) (os m : List ℕ) → Moving m₀ to d r (o ∷ os) m → None ≡ moved_by d (field_in r.text o) → Moving m₀ to d r os m
  moving_kept o os m (t, is, size, same) e = (t, is, size, same ∙ moved-over d r.text o os t e)

  pub moving_end : (m m' : List ℕ) → m ≡ sets m₀ to r.text → Moving m to d r [] m' → m' ≡ sets m₀ to (moved_text d r)
  moving_end m m' e (t, is, size, same) =
      is ∙ ap (λ l. sets l to t) e ∙ sets_over m₀ to r.text t room size ∙ ap (λ l. sets m₀ to l) (sym (same ∙ moved_none d r.text t))

-- WHETHER A FIELD IS OVER

-- a field is over where one of the offsets' fields is
pub over_any : (d : Displacement) (text os : List ℕ) → list_any (λ o. is_none (moved_by d (field_in text o))) os ≡ over_in d text os
unfolding over_in
over_any d text [] = refl
over_any d text (o ∷ os) = go (moved_by d (field_in text o)) (over_any d text os)
  where
    go : (x : Option Relocatable) → list_any (λ o. is_none (moved_by d (field_in text o))) os ≡ over_in d text os
        → (is_none x || list_any (λ o. is_none (moved_by d (field_in text o))) os) ≡ either (is_over x) (over_in d text os)
    go (Some v) e = e
    go None e = refl
