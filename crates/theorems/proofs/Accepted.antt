-- ACCEPTED EXACTLY WHEN (R21.3), by the order of R13.1.
use Rattle.std.specs.Prelude.{◌+◌, ◌≤◌, ◌∷◌, ◌≡◌, ◌⊎◌, ◌↔◌}
use Rattle.std.proofs.Common.{◌∙◌}
use Rattle.theorems.specs.Logic.{ℕ, zero, suc, List, [], Bool, true, false, refl, sym, ap, inl, inr, arith, length, get_or, eqb, eqb-true, eqb-false, add-zero}
use Rattle.theorems.specs.Types.{Phase, Line, Reading, Book, clean, bad, State, through, stopped, Translated, made, refused}
use Rattle.names.specs.Names.{find}
use Rattle.passes.specs.One.{reading_no, fresh, one_no, step_one, ended_as, pass_one}
use Rattle.passes.specs.Two.{outset, two_no, step_two, check_two, book_from}
use Rattle.passes.specs.Assembly.{after_two, after_one, assembled, Outcome, work_size, outcome_of, assembling}
use Rattle.lines.specs.Lines.{reading_of}
use Rattle.passes.proofs.Fine.{Fine, fine, one-zero}
use Rattle.passes.proofs.Turns.{pass-more, pass-stop, pass-end, check-more, check-stop, check-end, pass_turn}
use Rattle.values.proofs.Laws.{clash}
use Rattle.names.specs.Table.{zeroed}
use Rattle.book.specs.Writing.{book_bytes}
use Rattle.cards.specs.Source.{source_no, cards_of}
use Rattle.passes.proofs.Assembly.{fits, through_call}
use Rattle.theorems.specs.Grow.{behind, behind_two, names_by, look_in}
use Rattle.theorems.specs.Accepted.{made_answer, one_at, two_at, end_one, NoneRefused, FirstRefused}
use Rattle.theorems.proofs.Outcomes.{made-way}

-- a pass that ends where it stands
pub pass-ended : (k : ℕ) (st a : State) → pass_one k st [] ≡ through a → (a ≡ st) × (st.phase ≡ Phase.Ended)
pass-ended k st a h = go st.phase (sym (pass-end k st) ∙ h)
  where
    go : (p : Phase) → ended_as p st ≡ through a → (a ≡ st) × (p ≡ Phase.Ended)
    go Phase.Before h = clash (cc)
    go Phase.Within h = clash (cc)
    go Phase.Ended h = (cc, refl)

-- a card that pass one lets through is a comment, or a line of which it refuses nothing
pub let_through : (st : State) (s : List ℕ) → one_no st s ≡ 0 → (P : Reading → Type 0) → P Reading.Comment
    → ((l : Line) → reading_of s ≡ Reading.Statement l → Fine st s l → P (Reading.Statement l)) → P (reading_of s)
let_through st s h P none line = go (reading_of s) refl (one-zero st s h).2
  where
    go : (x : Reading) → reading_of s ≡ x → reading_no st s x ≡ 0 → P x
    go Reading.Comment q h = none
    go Reading.BadName q h = absurd (omega arith)
    go (Reading.Statement l) q h = line l q (fine st s l h)

with_first : (number_at : ℕ → ℕ) (n : ℕ) → number_at 0 ≡ 0 → NoneRefused (λ k. number_at (suc k)) n → NoneRefused number_at (suc n)
with_first number_at n e each zero i = e
with_first number_at n e each (suc k) i = each k (omega arith)

-- A WALK OVER THE CARDS that stops at the first that is refused

behind-first : (k : ℕ) (number_at : ℕ → ℕ) (cards number card : ℕ) → number_at 0 ≡ 0 → FirstRefused (k + 1) (λ n. number_at (suc n)) cards number card
    → FirstRefused k number_at (suc cards) number card
behind-first k number_at cards number card e x =
    let inside = x.inside in
    let is = x.is in
    record { place = suc x.place; inside = omega arith; is = omega arith; here = x.here; refuses = x.refuses; others = with_first number_at x.place e x.others }

module _ {S R : Type 0} (no : S → List ℕ → ℕ) (step : S → List ℕ → S) (run : ℕ → S → List (List ℕ) → R) (stop : ℕ → ℕ → R)
    (more : (k : ℕ) (st : S) (s : List ℕ) (ss : List (List ℕ)) → no st s ≡ 0 → run k st (s ∷ ss) ≡ run (k + 1) (step st s) ss)
    (halt : (k : ℕ) (st : S) (s : List ℕ) (ss : List (List ℕ)) → (no st s ≡ 0 → ⊥) → run k st (s ∷ ss) ≡ stop (no st s) k) where
  abbrev at : S → List (List ℕ) → ℕ → ℕ
  at st ss k = no (behind step k st ss) (get_or ss k [])

  -- it comes to its end behind all cards, or to the first card that is refused
  abbrev Walked : ℕ → S → List (List ℕ) → Type 0
  Walked k st ss =
      (NoneRefused (at st ss) (length ss) × (run k st ss ≡ run (k + length ss) (behind step (length ss) st ss) []))
      ⊎ ((number card : ℕ) × FirstRefused k (at st ss) (length ss) number card × (run k st ss ≡ stop number card))

  walked : (ss : List (List ℕ)) (k : ℕ) (st : S) → Walked k st ss
  unfolding behind
  walked [] k st = inl (λ n i. absurd (omega arith), ap (λ n. run n st []) (sym (add-zero k)))
  walked (s ∷ ss) k st = go (eqb (no st s) 0) refl (walked ss (k + 1) (step st s))
    where
      go : (b : Bool) → eqb (no st s) 0 ≡ b → Walked (k + 1) (step st s) ss → Walked k st (s ∷ ss)
      go true e (inl (each, end)) =
          let z = eqb-true (no st s) 0 e in
          let next : k + 1 + length ss ≡ k + suc (length ss) = omega arith in
          inl (with_first (at st (s ∷ ss)) (length ss) z each, more k st s ss z ∙ end ∙ ap (λ n. run n (behind step (length ss) (step st s) ss) []) next)
      go true e (inr (number, card, x, end)) =
          let z = eqb-true (no st s) 0 e in
          inr (number, card, behind-first k (at st (s ∷ ss)) (length ss) number card z x, more k st s ss z ∙ end)
      go false e r =
          let n = eqb-false (no st s) 0 e in
          inr (no st s, k, record { place = 0; inside = omega arith; is = omega arith; here = refl; refuses = n; others = λ i l. absurd (omega arith) }, halt k st s ss n)

-- where pass one goes through, it refuses no card
pub pass-each : (ss : List (List ℕ)) (k : ℕ) (st a : State) → pass_one k st ss ≡ through a → NoneRefused (one_at st ss) (length ss)
unfolding behind
pass-each [] k st a h = λ n i. absurd (omega arith)
pass-each (s ∷ ss) k st a h =
    let t = pass_turn k st a s ss h in
    with_first (one_at st (s ∷ ss)) (length ss) t.0 (pass-each ss (k + 1) (step_one st s) a t.1)

-- BOTH PASSES

module _ (ss : List (List ℕ)) where
  pub data Fate : Translated → Type 0 where
    by_one : (number card : ℕ) → FirstRefused 1 (one_at fresh ss) (length ss) number card → Fate (refused number card)
    no_end : NoneRefused (one_at fresh ss) (length ss) → ((end_one ss).phase ≡ Phase.Ended → ⊥) → Fate (refused 9 0)
    by_two : NoneRefused (one_at fresh ss) (length ss) → (end_one ss).phase ≡ Phase.Ended → (number card : ℕ) → FirstRefused 1 (two_at (look_in ss) outset ss) (length ss) number card
        → Fate (refused number card)
    both : NoneRefused (one_at fresh ss) (length ss) → (end_one ss).phase ≡ Phase.Ended → NoneRefused (two_at (look_in ss) outset ss) (length ss)
        → pass_one 1 fresh ss ≡ through (end_one ss) → check_two (look_in ss) 1 outset ss ≡ clean → Fate (made (length (end_one ss).names) (book_from (look_in ss) ss))

  pub fate : Fate (assembled ss)
  unfolding assembled
  fate = one (walked one_no step_one pass_one stopped pass-more pass-stop ss 1 fresh)
    where
      all : pass_one 1 fresh ss ≡ through (end_one ss) → look_in ss ≡ find (end_one ss).names
      all e = ap (λ x. find (names_by x)) e

      two : NoneRefused (one_at fresh ss) (length ss) → (end_one ss).phase ≡ Phase.Ended → pass_one 1 fresh ss ≡ through (end_one ss)
          → Walked (two_no (look_in ss)) (step_two (look_in ss)) (check_two (look_in ss)) bad (check-more (look_in ss)) (check-stop (look_in ss)) 1 outset ss
          → Fate (after_two ss (end_one ss).names (check_two (look_in ss) 1 outset ss))
      two each end e (inl (each', f)) =
          let no-bad = f ∙ check-end (look_in ss) (1 + length ss) (behind_two (look_in ss) (length ss) outset ss) in
          rw (no-bad, ← all e) (both each end each' e no-bad)
      two each end e (inr (number, card, x, f)) = rw f (by_two each end number card x)

      ended : NoneRefused (one_at fresh ss) (length ss) → (p : Phase) → (end_one ss).phase ≡ p → pass_one 1 fresh ss ≡ ended_as p (end_one ss) → Fate (after_one ss (pass_one 1 fresh ss))
      ended each Phase.Before q e = rw e (no_end each (λ f. clash (cc)))
      ended each Phase.Within q e = rw e (no_end each (λ f. clash (cc)))
      ended each Phase.Ended q e = rw (e, ← all e) (two each q e (walked (two_no (look_in ss)) (step_two (look_in ss)) (check_two (look_in ss)) bad (check-more (look_in ss)) (check-stop (look_in ss)) ss 1 outset))

      one : Walked one_no step_one pass_one stopped pass-more pass-stop 1 fresh ss → Fate (after_one ss (pass_one 1 fresh ss))
      one (inl (each, e)) = ended each (end_one ss).phase refl (e ∙ pass-end (1 + length ss) (end_one ss))
      one (inr (number, card, x, e)) = rw e (by_one number card x)

-- THE CARDS OF A SOURCE

-- the first that is refused is refused
not-both : {from : ℕ} {number_at : ℕ → ℕ} {cards number card : ℕ} → FirstRefused from number_at cards number card → NoneRefused number_at cards → ⊥
not-both x each = x.refuses (sym x.here ∙ each x.place x.inside)

-- made if and only if pass one refuses no card, an END has been, and pass two refuses no card;
-- then the names are those that pass one has at the end, and the book is that of pass two over them
pub cards-accepted : (ss : List (List ℕ)) (n : ℕ) (b : Book)
    → assembled ss ≡ made n b
    ↔ (NoneRefused (one_at fresh ss) (length ss) × ((end_one ss).phase ≡ Phase.Ended) × NoneRefused (two_at (look_in ss) outset ss) (length ss)
    × (n ≡ length (end_one ss).names) × (b ≡ book_from (look_in ss) ss))
cards-accepted ss n b = (λ h. there (rw h at (fate ss)), λ x. back x (fate ss))
  where
    Goal : ℕ → Book → Type 0
    Goal n b =
        NoneRefused (one_at fresh ss) (length ss) × ((end_one ss).phase ≡ Phase.Ended) × NoneRefused (two_at (look_in ss) outset ss) (length ss)
        × (n ≡ length (end_one ss).names) × (b ≡ book_from (look_in ss) ss)

    there : {n : ℕ} {b : Book} → Fate ss (made n b) → Goal n b
    there (both each end each' e no-bad) = (each, end, each', refl, refl)

    back : {r : Translated} → Goal n b → Fate ss r → r ≡ made n b
    back (each, end, each', count, book) (by_one number card x) = absurd (not-both x each)
    back (each, end, each', count, book) (no_end _ no_end') = absurd (no_end' end)
    back (each, end, each', count, book) (by_two _ _ number card x) = absurd (not-both x each')
    back (each, end, each', count, book) (both _ _ _ e no-bad) = cc

-- refused: with the number and the card of the first card that pass one refuses; or 9 with card 0, where it refuses none and no END has been;
-- or, where END has been, with those of the first card that pass two refuses
pub cards-refused : (number card : ℕ) (ss : List (List ℕ)) → assembled ss ≡ refused number card
    → FirstRefused 1 (one_at fresh ss) (length ss) number card
    ⊎ ((NoneRefused (one_at fresh ss) (length ss) × ((end_one ss).phase ≡ Phase.Ended → ⊥) × (number ≡ 9) × (card ≡ 0))
    ⊎ (NoneRefused (one_at fresh ss) (length ss) × ((end_one ss).phase ≡ Phase.Ended) × FirstRefused 1 (two_at (look_in ss) outset ss) (length ss) number card))
cards-refused number card ss h = go (rw h at (fate ss))
  where
    go : {number card : ℕ} → Fate ss (refused number card)
        → FirstRefused 1 (one_at fresh ss) (length ss) number card
        ⊎ ((NoneRefused (one_at fresh ss) (length ss) × ((end_one ss).phase ≡ Phase.Ended → ⊥) × (number ≡ 9) × (card ≡ 0))
        ⊎ (NoneRefused (one_at fresh ss) (length ss) × ((end_one ss).phase ≡ Phase.Ended) × FirstRefused 1 (two_at (look_in ss) outset ss) (length ss) number card))
    go (by_one number card x) = inl x
    go (no_end each no_end') = inr (inl (each, no_end', refl, refl))
    go (by_two each end number card x) = inr (inr (each, end, x))

-- THE CALL

-- accepted if and only if the source is whole cards and not too many, the work area is large enough, its cards make a book, and the output has room for it
pub call_accepted : (width : ℕ) (source work out : List ℕ) (bytes names : ℕ)
    → (assembling width source work out).answer ≡ made_answer bytes names
    ↔ ((b : Book) × (source_no width (length source) ≡ 0) × (work_size ≤ length work) × (assembled (cards_of width source) ≡ made names b)
    × (bytes ≡ length (book_bytes b)) × (bytes ≤ length out))
call_accepted width source work out bytes names = (there, back)
  where
    Goal : Type 0
    Goal =
        (b : Book) × (source_no width (length source) ≡ 0) × (work_size ≤ length work) × (assembled (cards_of width source) ≡ made names b)
        × (bytes ≡ length (book_bytes b)) × (bytes ≤ length out)

    there : (assembling width source work out).answer ≡ made_answer bytes names → Goal
    there h =
        let x = made-way width source work out bytes names h in
        let size = x.size in
        (x.book, x.source_fine, x.space, x.cards, size, omega arith)

    back : Goal → (assembling width source work out).answer ≡ made_answer bytes names
    back (b, e, w, f, size, room) =
        ap (λ (x : Outcome). x.answer) (through_call width source work out e w ∙ ap (λ x. outcome_of x (zeroed work_size work) out) f
        ∙ fits names (book_bytes b) (zeroed work_size work) out (omega arith))
        ∙ ap (λ x. made_answer x names) (sym size)
