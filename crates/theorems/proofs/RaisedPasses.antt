-- Both passes from behind START, and from there raised by d: where both go through, pass one ends in its state raised, and pass two makes its records and its entry raised.
use Rattle.std.specs.Prelude.{◌+◌, ◌∷◌, ◌≡◌}
use Rattle.std.proofs.Common.{◌∙◌}
use Rattle.theorems.specs.Logic.{Unit, tt, ℕ, List, [], map, refl, sym, ap, Option, None, Some}
use Rattle.theorems.specs.Types.{Relocatable, Line, Reading, Role, Phase, Name, Meaning, Course, Displacement, State, through, Piece, Record, clean, Value}
use Rattle.names.specs.Names.{find}
use Rattle.names.specs.Raised.{raised_name}
use Rattle.names.proofs.Names.{defined-raised}
use Rattle.lines.specs.Lines.{reading_of}
use Rattle.operations.specs.Traits.{role_of}
use Rattle.passes.specs.Cards.{name_value, name_length, operands_at, value_at}
use Rattle.passes.specs.One.{line_no, defined_as, with_name, again_no, start_no, reading_no, one_no, names_after, phase_after, reading_step, step_one, pass_one, early_no, early_by}
use Rattle.passes.proofs.Turns.{pass_turn, check_turn}
use Rattle.passes.proofs.Fine.{Fine, fine, one-zero}
use Rattle.values.proofs.Numbers.{or_zero}
use Rattle.operands.specs.Kinds.{expressions_no}
use Rattle.statements.specs.Statements.{statement_no}
use Rattle.passes.specs.Two.{reading_two_no, two_no, reading_two_step, step_two, check_two, reading_pieces, card_pieces, with_record, card_records, role_entry, reading_entry, entry_from}
use Rattle.theorems.specs.Raised.{raised_maybe, raised_state, raised_piece, raised_course}
use Rattle.theorems.specs.Moved.{moved_entry}
use Rattle.theorems.proofs.Accepted.{pass-ended, let_through}
use Rattle.theorems.proofs.RaisedCards.{counter-raised, name-raised, value-raised, line_bases, line-pieces}
use Rattle.theorems.proofs.RaisedText.{Low, RecordsRaised}
use Rattle.theorems.proofs.Texts.{card-sized}

-- START has been met
abbrev pub Begun : Phase → Type 0
Begun Phase.Before = ⊥
Begun Phase.Within = Unit {0}
Begun Phase.Ended = Unit {0}

-- a card that pass one lets through behind START
abbrev pub Usual : List ℕ → Type 0
Usual s = (st : State) × (Begun st.phase) × (one_no st s ≡ 0)

abbrev pub AllUsual : List (List ℕ) → Type 0
AllUsual [] = Unit {0}
AllUsual (s ∷ ss) = Usual s × AllUsual ss

pub again : (p : Phase) (r : Role) → Begun p → start_no p r ≡ 0 → again_no r ≡ 0
again Phase.Before r b h = absurd b
again Phase.Within r b h = h
again Phase.Ended r b h = h

begun-on : (r : Role) (p : Phase) → Begun p → Begun (phase_after r p)
begun-on Role.Starts p b = tt
begun-on Role.Equates p b = b
begun-on Role.SetsCounter p b = b
begun-on Role.Ends p b = tt
begun-on Role.Advances p b = b

begun-step : (st : State) (s : List ℕ) → one_no st s ≡ 0 → Begun st.phase → Begun (step_one st s).phase
unfolding step_one
begun-step st s h b = let_through st s h (λ x. Begun (reading_step st s x).phase) b (λ l q f. begun-on (role_of l.operation) st.phase b)

pub pass-usual : (ss : List (List ℕ)) (k : ℕ) (st a : State) → Begun st.phase → pass_one k st ss ≡ through a → AllUsual ss
pass-usual [] k st a b h = tt
pass-usual (s ∷ ss) k st a b h =
    let (n, r) = pass_turn k st a s ss h in
    ((st, b, n), pass-usual ss (k + 1) (step_one st s) a (begun-step st s n b) r)

module _ (d : ℕ) where
  names-raised : (st : State) (s : List ℕ) (l : Line) → name_value (find (map (raised_name d) st.names)) (st.counter + d) s l ≡ raised_maybe d (name_value (find st.names) st.counter s l)
      → names_after (raised_state d st) s l ≡ map (raised_name d) (names_after st s l)
  unfolding names_after
  names-raised st s l e = rw e (go l.name (name_value (find st.names) st.counter s l))
    where
      size : ℕ
      size = name_length l.operation l.shape

      go : (name : Option ℕ) (v : Option Value) → with_name name (λ k. defined_as k (raised_maybe d v) size (map (raised_name d) st.names)) (map (raised_name d) st.names)
          ≡ map (raised_name d) (with_name name (λ k. defined_as k v size st.names) st.names)
      go None v = refl
      go (Some name) (Some v) = sym (defined-raised d (record { number = name; value = v; length = size }) st.names)
      go (Some name) None = refl

  step-one : (st : State) (s : List ℕ) → Begun st.phase → one_no st s ≡ 0 → one_no (raised_state d st) s ≡ 0 → step_one (raised_state d st) s ≡ raised_state d (step_one st s)
  unfolding step_one
  step-one st s b h k =
      let_through st s h (λ x. reading_no (raised_state d st) s x ≡ 0 → reading_step (raised_state d st) s x ≡ raised_state d (reading_step st s x)) (λ k. refl) line (one-zero (raised_state d st) s k).2
    where
      line : (l : Line) → reading_of s ≡ Reading.Statement l → Fine st s l → line_no (raised_state d st) s l ≡ 0
          → reading_step (raised_state d st) s (Reading.Statement l) ≡ raised_state d (reading_step st s (Reading.Statement l))
      line l q f k =
          let g = fine (raised_state d st) s l k in
          let n = again st.phase (role_of l.operation) b f.started in
          let counter = counter-raised d s l st.names st.counter n f.early g.early in
          let value = name-raised d s l st.names st.counter n f.early g.early f.sizes in
          rw (counter, names-raised st s l value)

  pub pass-raised : (ss : List (List ℕ)) (k : ℕ) (st a b : State) → Begun st.phase → pass_one k st ss ≡ through a → pass_one k (raised_state d st) ss ≡ through b → b ≡ raised_state d a
  pass-raised [] k st a b w p q = (pass-ended k (raised_state d st) b q).0 ∙ ap (raised_state d) (sym (pass-ended k st a p).0)
  pass-raised (s ∷ ss) k st a b w p q =
      let (n, r) = pass_turn k st a s ss p in
      let (m, t) = pass_turn k (raised_state d st) b s ss q in
      pass-raised ss (k + 1) (step_one st s) a b (begun-step st s n w) r (rw (step-one st s w n m) at t)

-- no expression of a card that pass two lets through is refused
expressions-fine : (look : ℕ → Option Meaning) (c : Course) (s : List ℕ) (l : Line) → reading_two_no look c s (Reading.Statement l) ≡ 0
    → expressions_no l.operation (operands_at look c.counter s l) ≡ 0
unfolding statement_no
expressions-fine look c s l h = (or_zero _ _ h).0

early-two : (look : ℕ → Option Meaning) (here : ℕ) (s : List ℕ) (l : Line) → expressions_no l.operation (operands_at look here s l) ≡ 0 → early_no look here s l ≡ 0
unfolding early_no
early-two look here s l h = go (role_of l.operation)
  where
    go : (r : Role) → early_by r l.operation (operands_at look here s l) ≡ 0
    go Role.Starts = refl
    go Role.Equates = h
    go Role.SetsCounter = h
    go Role.Ends = refl
    go Role.Advances = refl

module _ (d : ℕ) (ns : List Name) where
  abbrev up : List Name
  up = map (raised_name d) ns

  abbrev by : Displacement
  by = record { 0 = d }

  -- ONE CARD

  module _ (c : Course) (s : List ℕ) where
    -- the course behind it, its pieces, and the entry where it is END
    abbrev Raised : Reading → Type 0
    Raised x =
        (reading_two_step (find up) (raised_course d c) s x ≡ raised_course d (reading_two_step (find ns) c s x))
        × (reading_pieces (find up) (raised_course d c) s x ≡ map (raised_piece d) (reading_pieces (find ns) c s x))
        × ((rest : Option Relocatable) → reading_entry (find up) (raised_course d c) s x (moved_entry by rest) ≡ moved_entry by (reading_entry (find ns) c s x rest))

    entry-raised : (r : Role) (v : Option Value) (rest : Option Relocatable) → role_entry r (raised_maybe d v) (moved_entry by rest) ≡ moved_entry by (role_entry r v rest)
    entry-raised Role.Starts v rest = refl
    entry-raised Role.Equates v rest = refl
    entry-raised Role.SetsCounter v rest = refl
    entry-raised Role.Ends (Some (Value.Absolute a)) rest = refl
    entry-raised Role.Ends (Some (Value.Relocatable a)) rest = refl
    entry-raised Role.Ends None rest = refl
    entry-raised Role.Advances v rest = refl

    card-raised : Usual s → two_no (find ns) c s ≡ 0 → two_no (find up) (raised_course d c) s ≡ 0 → Raised (reading_of s)
    unfolding two_no
    card-raised (st, b, n) =
        let_through st s n (λ x. reading_two_no (find ns) c s x ≡ 0 → reading_two_no (find up) (raised_course d c) s x ≡ 0 → Raised x) (λ h k. (refl, refl, λ rest. refl)) line
      where
        line : (l : Line) → reading_of s ≡ Reading.Statement l → Fine st s l → reading_two_no (find ns) c s (Reading.Statement l) ≡ 0 → reading_two_no (find up) (raised_course d c) s (Reading.Statement l) ≡ 0
            → Raised (Reading.Statement l)
        line l e f h k =
            let p = expressions-fine (find ns) c s l h in
            let q = expressions-fine (find up) (raised_course d c) s l k in
            let i = early-two (find ns) c.counter s l p in
            let j = early-two (find up) (c.counter + d) s l q in
            let later = again st.phase (role_of l.operation) b f.started in (
              rw (counter-raised d s l ns c.counter later i j, line_bases d s l ns c.counter p q c.bases),
              line-pieces d s l ns c.counter p q c.bases,
              λ rest. rw (value-raised d s l ns c.counter p q) (entry-raised (role_of l.operation) (value_at (find ns) c.counter s l) rest),
            )

  -- ALL CARDS

  with_raised : (card address : ℕ) (ps : List Piece) (rs qs : List Record) → Low (map (raised_piece d) ps) → RecordsRaised d rs qs
      → RecordsRaised d (with_record card address ps rs) (with_record card (address + d) (map (raised_piece d) ps) qs)
  with_raised card address [] rs qs low r = r
  with_raised card address (p ∷ ps) rs qs low r = RecordsRaised.more card address (p ∷ ps) low r

  pub cards-raised : (ss : List (List ℕ)) (k : ℕ) (c : Course) → AllUsual ss → check_two (find ns) k c ss ≡ clean → check_two (find up) k (raised_course d c) ss ≡ clean
      → RecordsRaised d (card_records (find ns) k c ss) (card_records (find up) k (raised_course d c) ss) × (entry_from (find up) (raised_course d c) ss ≡ moved_entry by (entry_from (find ns) c ss))
  unfolding card_records entry_from step_two card_pieces
  cards-raised [] k c u p q = (RecordsRaised.none, refl)
  cards-raised (s ∷ ss) k c (u, us) p q =
      let (h, i) = check_turn (find ns) k c s ss p in
      let (g, j) = check_turn (find up) k (raised_course d c) s ss q in
      let (step, card, entry) = card-raised c s u h g in
      let low = rw card at (card-sized u.0 s u.2 (find up) (raised_course d c) g).0 in
      let (records, rest) = cards-raised ss (k + 1) (step_two (find ns) c s) us i (rw step at j) in
      (rw (card, step) (with_raised k c.counter (card_pieces (find ns) c s) _ _ low records), rw (step, rest) (entry (entry_from (find ns) (step_two (find ns) c s) ss)))
