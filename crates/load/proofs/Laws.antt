-- Laws on the definitions of loading: a turn of each loop over the records, and each outcome.
use Prim.Native.Nat.{ℕ, ◌+◌, ◌*◌, ◌≤◌}
use mathlib.Core.List.{List, [], ◌∷◌}
use mathlib.Core.Path.{◌≡◌, refl, sym, ap, ◌∙◌}
use mathlib.Core.Bool.{Bool, true, false, cond}
use mathlib.Core.Logic.{◌⊎◌, inl, inr}
use native.Mathlib.Omega.{arith}
use lib.ListN.{length}
use lib.Seq.{sets}
use borrow.Author.Tests.{eq-eqb, ne_eqb, ltb-false}
use Rattle.values.specs.Tests.{pick}
use Rattle.values.specs.declared.Displacement.{Displacement}
use Rattle.values.specs.declared.Relocatable.{Relocatable}
use Rattle.book.specs.Book.{Record}
use Rattle.book.specs.Reading.{layout_of, records_in, Kept}
use Rattle.book.specs.Writing.{fair_all}
use Rattle.book.proofs.Written.{fair-first, read-fair}
use Rattle.book.specs.Records.{record_of}
use Rattle.book.specs.declared.record.Record.{Record as Lent}
use Rattle.std.specs.List.{find}
use Rattle.std.specs.Option.{MatchOption, IsSomeAnd, option_map, unwrap_or}
use Rattle.book.proofs.Turns.{book-none, book-is}
use Rattle.fields.specs.Fields.{over_field, moved_text}
use Rattle.fields.proofs.Laws.{moved-low}
use Rattle.values.proofs.Sums.{moved_to}
use Rattle.values.proofs.Laws.{clash}
use Rattle.load.specs.declared.Stored.{Stored}
use Rattle.load.specs.declared.LoadError.{LoadError}
use Rattle.load.specs.declared.LoadError.TheVariants.{Broken, Outside, Over}
use Rattle.load.specs.Load.{Outcome, first_card, moved_address, outside_at, outside, room_in, stored_at, stored, stored_all, bytes_stored, refused, judged_entry, judged, loading}
use Rattle.std.specs.Prelude.{Option, Some, None, Result, Ok, Err}
use Rattle.book.specs.Reading.{broken}

-- THE FIRST RECORD THAT FAILS

-- its card, where a record is found
first_card_is : (fails : Record → Bool) (rs : List Record) → first_card fails rs ≡ unwrap_or (option_map (λ r. r.card) (find fails rs)) 0
unfolding first_card
first_card_is fails [] = refl
first_card_is fails (r ∷ rs) = go (fails r) (first_card_is fails rs)
  where
    go : (b : Bool) → first_card fails rs ≡ unwrap_or (option_map (λ r. r.card) (find fails rs)) 0
        → pick b r.card (first_card fails rs) ≡ unwrap_or (option_map (λ r. r.card) (cond b (Some r) (find fails rs))) 0
    go true e = refl
    go false e = e

pub card_found : (fails : Record → Bool) (rs : List Record) (found : Option Lent) (card : Option ℕ) (P : Lent → ℕ → Type 0) → option_map record_of found ≡ find fails rs
    → MatchOption found (card ≡ None) (λ r. IsSomeAnd card (P r)) → ((r : Lent) (n : ℕ) → P r n → n ≡ (record_of r).card) → unwrap_or card 0 ≡ first_card fails rs
card_found fails rs found card P e m is = go found card m ∙ ap (λ o. unwrap_or (option_map (λ r. r.card) o) 0) e ∙ sym (first_card_is fails rs)
  where
    go : (found : Option Lent) (card : Option ℕ) → MatchOption found (card ≡ None) (λ r. IsSomeAnd card (P r))
        → unwrap_or card 0 ≡ unwrap_or (option_map (λ r. r.card) (option_map record_of found)) 0
    go None card m = rw m
    go (Some r) None m = absurd m
    go (Some r) (Some n) m = is r n m

module _ (fails : Record → Bool) where
  pub first_hit : (r : Record) (rs : List Record) → fails r ≡ true → first_card fails (r ∷ rs) ≡ r.card
  unfolding first_card
  first_hit r rs e = rw e

  pub first-miss : (r : Record) (rs : List Record) → fails r ≡ false → first_card fails (r ∷ rs) ≡ first_card fails rs
  unfolding first_card
  first-miss r rs e = rw e

  pub first-none : first_card fails [] ≡ 0
  unfolding first_card
  first-none = refl

  -- where none fails, the first doesn't
  pub none-fails : (r : Record) (rs : List Record) → 1 ≤ r.card → first_card fails (r ∷ rs) ≡ 0 → (fails r ≡ false) × (first_card fails rs ≡ 0)
  none-fails r rs h e = go (fails r) refl
    where
      go : (b : Bool) → fails r ≡ b → (fails r ≡ false) × (first_card fails rs ≡ 0)
      go true k = let n = first_hit r rs k in absurd (omega arith)
      go false k = (k, sym (first-miss r rs k) ∙ e)

-- INSIDE STORAGE

-- a record that is not outside: its address is not over, and its text ends inside
pub inside_is : (d : Displacement) (room : ℕ) (r : Record) → outside d room r ≡ false → (r.address + d.0 ≤ 65535) × (r.address + d.0 + length r.text ≤ room)
inside_is d room r e = go (moved_address d r) refl e
  where
    go : (x : Option Relocatable) → x ≡ moved_address d r → outside_at x (length r.text) room ≡ false → (r.address + d.0 ≤ 65535) × (r.address + d.0 + length r.text ≤ room)
    go (Some a) q k =
        let (is, low) = moved_to d (record { 0 = r.address }) a q in
        let ends = ltb-false room (a.0 + length r.text) k in
        (low, omega arith)
    go None q k = clash (cc)

-- STORING

pub stored_to : (d : Displacement) (r : Record) (m : List ℕ) (a : Relocatable) → Some a ≡ moved_address d r → stored d r m ≡ sets m a.0 (moved_text d r)
unfolding stored
stored_to d r m a e = rw (← e)

pub stored_nowhere : (d : Displacement) (r : Record) (m : List ℕ) → None ≡ moved_address d r → stored d r m ≡ m
unfolding stored
stored_nowhere d r m e = rw (← e)

-- where the address is not over
pub stored_is : (d : Displacement) (r : Record) (m : List ℕ) → r.address + d.0 ≤ 65535 → stored d r m ≡ sets m (r.address + d.0) (moved_text d r)
stored_is d r m low = stored_to d r m (record { 0 = r.address + d.0 }) (moved-low d (record { 0 = r.address }) low)

-- at its address plus the displacement, or nowhere
pub stored_ways : (d : Displacement) (r : Record) (m : List ℕ) → (stored d r m ≡ sets m (r.address + d.0) (moved_text d r)) ⊎ (stored d r m ≡ m)
unfolding stored
stored_ways d r m = go (moved_address d r) refl
  where
    go : (x : Option Relocatable) → x ≡ moved_address d r → (stored_at x (moved_text d r) m ≡ sets m (r.address + d.0) (moved_text d r)) ⊎ (stored_at x (moved_text d r) m ≡ m)
    go (Some a) q = inl (ap (λ n. sets m n (moved_text d r)) (moved_to d (record { 0 = r.address }) a q).0)
    go None q = inr refl

pub stored-first : (d : Displacement) (r : Record) (rs : List Record) (m : List ℕ) → stored_all d (r ∷ rs) m ≡ stored_all d rs (stored d r m)
unfolding stored_all
stored-first d r rs m = refl

pub stored-none : (d : Displacement) (m : List ℕ) → stored_all d [] m ≡ m
unfolding stored_all
stored-none d m = refl

pub bytes-first : (r : Record) (rs : List Record) → bytes_stored (r ∷ rs) ≡ length r.text + bytes_stored rs
unfolding bytes_stored
bytes-first r rs = refl

pub bytes-none : bytes_stored [] ≡ 0
unfolding bytes_stored
bytes-none = refl

-- what is left to store: the whole storage and the whole count are those of the rest, from the storage and the count now
pub record Still (d : Displacement) (room : ℕ) (whole : List ℕ) (sum : ℕ) (m : List ℕ) (count : ℕ) (rs : List Record) : Type 0 where
  pub storage : whole ≡ stored_all d rs m
  pub bytes : sum ≡ count + bytes_stored rs
  pub inside : first_card (outside d room) rs ≡ 0

-- that, of a book that is stored over `was`
abbrev pub Storing : List ℕ → Displacement → List ℕ → List ℕ → ℕ → List Record → Type 0
Storing book d was m count rs = Still d (room_in was) (stored_all d (records_in book) was) (bytes_stored (records_in book)) m count rs

-- the text of the first record left goes inside
pub still_inside : (d : Displacement) (room : ℕ) (whole : List ℕ) (sum : ℕ) (m : List ℕ) (count : ℕ) (r : Record) (rest : List Record) (a : Relocatable)
    → Still d room whole sum m count (r ∷ rest) → 1 ≤ r.card → Some a ≡ moved_address d r → a.0 + length r.text ≤ room
still_inside d room whole sum m count r rest a s card e =
    ltb-false room (a.0 + length r.text) (ap (λ x. outside_at x (length r.text) room) e ∙ (none-fails (outside d room) r rest card s.inside).0)

-- what is counted with it is no more than the whole
pub still_count : (d : Displacement) (room : ℕ) (whole : List ℕ) (sum : ℕ) (m : List ℕ) (count : ℕ) (r : Record) (rest : List Record)
    → Still d room whole sum m count (r ∷ rest) → count + length r.text ≤ sum
still_count d room whole sum m count r rest s =
    let b = s.bytes in
    let f = bytes-first r rest in
    omega arith

pub still-first : (d : Displacement) (room : ℕ) (whole : List ℕ) (sum : ℕ) (m m' : List ℕ) (count size : ℕ) (r : Record) (rest : List Record)
    → Still d room whole sum m count (r ∷ rest) → 1 ≤ r.card → length r.text ≡ size → m' ≡ stored d r m → Still d room whole sum m' (count + size) rest
still-first d room whole sum m m' count size r rest s card n is =
    let b = s.bytes in
    let f = bytes-first r rest in
    record {
      storage = s.storage ∙ stored-first d r rest m ∙ ap (λ l. stored_all d rest l) (sym is);
      bytes = omega arith;
      inside = (none-fails (outside d room) r rest card s.inside).1;
    }

-- .. where no record that is left has a field that is over
pub record StillUnder (d : Displacement) (room : ℕ) (whole : List ℕ) (sum : ℕ) (m : List ℕ) (count : ℕ) (rs : List Record) : Type 0 where
  pub still : Still d room whole sum m count rs
  pub under : first_card (over_field d) rs ≡ 0

pub still-under : (d : Displacement) (room : ℕ) (whole : List ℕ) (sum : ℕ) (m m' : List ℕ) (count size : ℕ) (r : Record) (rest : List Record)
    → StillUnder d room whole sum m count (r ∷ rest) → 1 ≤ r.card → length r.text ≡ size → m' ≡ stored d r m → StillUnder d room whole sum m' (count + size) rest
still-under d room whole sum m m' count size r rest s card n is = record {
  still = still-first d room whole sum m m' count size r rest s.still card n is;
  under = (none-fails (over_field d) r rest card s.under).1;
}

-- at most 256 bytes for each card
bytes_most : (rs : List Record) (last : ℕ) → fair_all last rs ≡ true → last ≤ 4000 → bytes_stored rs + 256 * last ≤ 1024000
unfolding bytes_stored
bytes_most [] last e h = omega arith
bytes_most (r ∷ rs) last e h =
    let (f, others) = fair-first last r rs e in
    let most = bytes_most rs r.card others f.card in
    let short = f.short in
    let rise = f.rise in
    omega arith

pub bytes_fit : (s : List ℕ) → Kept s → bytes_stored (records_in s) ≤ 1024000
bytes_fit s (e, q) =
    let most = bytes_most (records_in s) 0 (read-fair s _ (book-is s e q)) (omega arith) in
    omega arith

-- THE OUTCOMES

module _ (e : Option Relocatable) (d : Displacement) (rs : List Record) (m : List ℕ) where
  pub is-outside : (first_card (outside d (room_in m)) rs ≡ 0 → ⊥) → judged e d rs m ≡ refused (Outside (first_card (outside d (room_in m)) rs)) m
  unfolding judged
  is-outside n = rw (ne_eqb _ _ n)

  module _ (inside : first_card (outside d (room_in m)) rs ≡ 0) where
    pub is-over : (first_card (over_field d) rs ≡ 0 → ⊥) → judged e d rs m ≡ refused (Over (first_card (over_field d) rs)) m
    unfolding judged
    is-over n = rw (eq-eqb _ _ inside, ne_eqb _ _ n)

    pub is_admitted : first_card (over_field d) rs ≡ 0 → judged e d rs m ≡ judged_entry e d rs m
    unfolding judged
    is_admitted u = rw (eq-eqb _ _ inside, eq-eqb _ _ u)

-- an answer and a storage that are an outcome's
pub by_outcome : (o p : Outcome) (r : Result Stored LoadError) (m : List ℕ) → o ≡ p → r ≡ p.answer → m ≡ p.storage → (r ≡ o.answer) × (m ≡ o.storage)
by_outcome o p r m e a b = rw e (a, b)

pub is_broken_lem : (s : List ℕ) (d : Displacement) (m : List ℕ) → (Err broken) ≡ layout_of s → loading s d m ≡ refused Broken m
unfolding loading
is_broken_lem s d m e = rw (book-none s e)

pub is_whole : (s : List ℕ) (e : Option Relocatable) (d : Displacement) (m : List ℕ) → Ok e ≡ layout_of s → loading s d m ≡ judged e d (records_in s) m
unfolding loading
is_whole s e d m q = rw (book-is s e q)
