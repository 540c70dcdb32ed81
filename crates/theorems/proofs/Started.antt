-- Up to START: only comment cards stand before it, and it sets the counter and its name and makes nothing.
use Rattle.std.specs.Prelude.{◌+◌, ◌∷◌, ◌++◌, ◌≡◌}
use Rattle.std.proofs.Common.{◌∙◌}
use Rattle.theorems.specs.Logic.{Unit, tt, ℕ, List, [], refl, ap, arith, Option, Result}
use Rattle.theorems.specs.Types.{Value, Relocatable, Name, Meaning, Shape, Line, Reading, Role, Course, clean, State, through}
use Rattle.names.specs.Names.{defined}
use Rattle.operations.specs.declared.Operation.TheVariants.{Start}
use Rattle.forms.specs.Shape.{start_or}
use Rattle.operations.specs.Traits.{role_of}
use Rattle.operands.specs.Operands.{operands_of}
use Rattle.places.specs.Places.{bases_by}
use Rattle.statements.specs.Statements.{statement_from}
use Rattle.encode.specs.Pieces.{pieces_of}
use Rattle.lines.specs.Lines.{reading_of, operand_columns}
use Rattle.passes.specs.declared.Phase.TheVariants.{Before, Within}
use Rattle.passes.specs.Cards.{counter_after, name_value}
use Rattle.passes.specs.One.{fresh, missing_no, with_name, reading_no, names_after, phase_after, step_one, pass_one}
use Rattle.passes.specs.Two.{outset, step_two, check_two, shape_pieces, line_pieces, card_pieces, card_records, reading_entry, entry_from}
use Rattle.passes.proofs.Turns.{pass_turn, check_turn}
use Rattle.passes.proofs.Fine.{Fine, fine, one-zero}
use Rattle.theorems.specs.Moved.{Starting}
use Rattle.values.proofs.Laws.{clash}
use Rattle.theorems.proofs.Accepted.{let_through}
use Rattle.theorems.proofs.Lines.{Has, line_has}
use Rattle.operations.specs.declared.traits.Pattern.TheVariants.{StartTerm}
use Rattle.theorems.proofs.RaisedPasses.{again, Begun, Usual, AllUsual, pass-usual}

-- every card is a comment
abbrev pub AllComments : List (List ℕ) → Type 0
AllComments [] = Unit {0}
AllComments (s ∷ ss) = (reading_of s ≡ Reading.Comment) × AllComments ss

comment_one : (st : State) (s : List ℕ) → reading_of s ≡ Reading.Comment → step_one st s ≡ st
unfolding step_one
comment_one st s e = rw e

-- the number of the card behind them, and what the passes make of them
abbrev pub card_behind : ℕ → List (List ℕ) → ℕ
card_behind k [] = k
card_behind k (s ∷ ss) = card_behind (k + 1) ss

module _ (rest : List (List ℕ)) where
  comments-one : (ss : List (List ℕ)) → AllComments ss → (k : ℕ) (st a : State) → pass_one k st (ss ++ rest) ≡ through a → pass_one (card_behind k ss) st rest ≡ through a
  comments-one [] c k st a h = h
  comments-one (s ∷ ss) (e, c) k st a h = comments-one ss c (k + 1) st a (rw (comment_one st s e) at (pass_turn k st a s (ss ++ rest) h).1)

  comments-two : (look : ℕ → Option Meaning) (c : Course) (ss : List (List ℕ)) → AllComments ss → (k : ℕ)
      → (check_two look k c (ss ++ rest) ≡ clean → check_two look (card_behind k ss) c rest ≡ clean)
      × (card_records look k c (ss ++ rest) ≡ card_records look (card_behind k ss) c rest) × (entry_from look c (ss ++ rest) ≡ entry_from look c rest)
  unfolding card_records entry_from step_two card_pieces
  comments-two look c [] all k = (λ h. h, refl, refl)
  comments-two look c (s ∷ ss) (e, all) k =
      let (two, records, entry) = comments-two look c ss all (k + 1) in
      (λ h. two (rw e at (check_turn look k c s (ss ++ rest) h).1), rw e records, rw e entry)

-- a line that pass one lets through before START is START
begins : (s : List ℕ) (l : Line) → reading_of s ≡ Reading.Statement l → reading_no fresh s (Reading.Statement l) ≡ 0 → Begun (step_one fresh s).phase
unfolding step_one
begins s l e h = rw e (go (role_of l.operation) (fine fresh s l h).started)
  where
    go : (r : Role) → missing_no r ≡ 0 → Begun (phase_after r Before)
    go Role.Starts h = tt
    go Role.Equates h = absurd (omega arith)
    go Role.SetsCounter h = absurd (omega arith)
    go Role.Ends h = tt
    go Role.Advances h = absurd (omega arith)

-- THE START CARD

-- R7.4: behind START in pass one, its counter and its name
abbrev named : Option ℕ → ℕ → List Name
named name at = with_name name (λ k. record { number = k; value = Value.Relocatable (record { 0 = at }); length = 1 } ∷ []) []

abbrev pub begun_one : Option ℕ → ℕ → State
begun_one name at = record { counter = at; names = named name at; phase = Within }

-- .. and in pass two
abbrev pub begun_two : ℕ → Course
begun_two at = record { counter = at; bases = outset.bases }

module _ (s : List ℕ) (l : Line) (reads : reading_of s ≡ Reading.Statement l) (is : l.operation ≡ Start) where
  line-one : step_one fresh s ≡ begun_one l.name (start_or l.shape 0)
  unfolding step_one names_after name_value counter_after defined
  line-one = rw (reads, is)

  line-two : (look : ℕ → Option Meaning) → step_two look outset s ≡ begun_two (start_or l.shape 0)
  unfolding step_two counter_after bases_by
  line-two look = rw (reads, is)

  line-pieces : (look : ℕ → Option Meaning) → card_pieces look outset s ≡ []
  unfolding card_pieces line_pieces operands_of statement_from pieces_of
  line-pieces look = rw reads (go (rw is at (line_has s l reads)))
    where
      go : {x : Result Shape ℕ} → Has StartTerm x
          → shape_pieces x (operand_columns s l) (pieces_of (statement_from l.operation (operands_of look 0 (operand_columns s l) x) 0 outset.bases)) ≡ []
      go Has.fails = refl
      go Has.starts = refl

  line-entry : (look : ℕ → Option Meaning) (rest : Option Relocatable) → reading_entry look outset s (reading_of s) rest ≡ rest
  line-entry look rest = rw (reads, is)

  line-again : Usual s → ⊥
  line-again (st, b, h) = let_through st s h (λ x. x ≡ Reading.Statement l → ⊥) (λ e. clash (cc)) again_no_lem reads
    where
      again_no_lem : (m : Line) → reading_of s ≡ Reading.Statement m → Fine st s m → Reading.Statement m ≡ Reading.Statement l → ⊥
      again_no_lem m q f e =
          let same : m.operation ≡ Start = cc in
          let z = again st.phase (role_of m.operation) b f.started in
          let no = rw same at z in
          omega arith

-- A DECK WITH START AT A PLACE, whose passes come down to the cards behind it

module _ (before : List (List ℕ)) (s : List ℕ) (after : List (List ℕ)) (name : Option ℕ) (at : ℕ) (card : Starting s name at) where
  start-one : step_one fresh s ≡ begun_one name at
  start-one =
      line-one s card.line card.reads card.operation
      ∙ ap (λ x. begun_one x (start_or card.line.shape 0)) card.name ∙ ap (begun_one name) card.value

  start-two : (look : ℕ → Option Meaning) → step_two look outset s ≡ begun_two at
  start-two look = line-two s card.line card.reads card.operation look ∙ ap begun_two card.value

  start-usual : (xs : List (List ℕ)) → AllUsual (xs ++ s ∷ after) → Usual s
  start-usual [] h = h.0
  start-usual (x ∷ xs) h = start-usual xs h.1

  -- R7.3: 13, no START first, or a second one
  start-again : (xs : List (List ℕ)) (k : ℕ) (st a : State) → Begun st.phase → pass_one k st (xs ++ s ∷ after) ≡ through a → ⊥
  start-again xs k st a b h = line-again s card.line card.reads card.operation (start-usual xs (pass-usual (xs ++ s ∷ after) k st a b h))

  comments-from : (xs : List (List ℕ)) (k : ℕ) (a : State) → pass_one k fresh (xs ++ s ∷ after) ≡ through a → AllComments xs
  comments-from [] k a h = tt
  comments-from (x ∷ xs) k a h =
      let (n, p) = pass_turn k fresh a x (xs ++ s ∷ after) h in
      go (reading_of x) refl (one-zero fresh x n).2 p (comments-from xs (k + 1) a)
    where
      go : (r : Reading) → reading_of x ≡ r → reading_no fresh x r ≡ 0 → pass_one (k + 1) (step_one fresh x) (xs ++ s ∷ after) ≡ through a
          → (pass_one (k + 1) fresh (xs ++ s ∷ after) ≡ through a → AllComments xs) → AllComments (x ∷ xs)
      go Reading.Comment e h p ih = (e, ih (rw (comment_one fresh x e) at p))
      go Reading.BadName e h p ih = absurd (omega arith)
      go (Reading.Statement m) e h p ih = absurd (start-again xs (k + 1) (step_one fresh x) a (begins x m e h) p)

  pub only-comments : (a : State) → pass_one 1 fresh (before ++ s ∷ after) ≡ through a → AllComments before
  only-comments a h = comments-from before 1 a h

  module _ (comments : AllComments before) where
    pub one-behind : (a : State) → pass_one 1 fresh (before ++ s ∷ after) ≡ through a → pass_one (card_behind 1 before + 1) (begun_one name at) after ≡ through a
    one-behind a p = rw start-one at (pass_turn (card_behind 1 before) fresh a s after (comments-one (s ∷ after) before comments 1 fresh a p)).1

    pub two-behind : (look : ℕ → Option Meaning)
        → (check_two look 1 outset (before ++ s ∷ after) ≡ clean → check_two look (card_behind 1 before + 1) (begun_two at) after ≡ clean)
        × (card_records look 1 outset (before ++ s ∷ after) ≡ card_records look (card_behind 1 before + 1) (begun_two at) after)
        × (entry_from look outset (before ++ s ∷ after) ≡ entry_from look (begun_two at) after)
    unfolding card_records entry_from
    two-behind look =
        let (two, records, entry) = comments-two (s ∷ after) look outset before comments 1 in (
          λ p. rw (start-two look) at (check_turn look (card_behind 1 before) outset s after (two p)).1,
          records ∙ rw (line-pieces s card.line card.reads card.operation look, start-two look),
          entry ∙ line-entry s card.line card.reads card.operation look (entry_from look (step_two look outset s) after) ∙ ap (λ c. entry_from look c after) (start-two look),
        )
