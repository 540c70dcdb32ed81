-- THE ENTRY (R21.3, R12.1, R12.2). END is the last card of an accepted source, and the book's entry is its operand, or none.
use Rattle.std.specs.Prelude.{◌<◌, ◌∷◌, ◌⊎◌, ◌≡◌}
use Rattle.std.proofs.Common.{◌∙◌}
use Rattle.theorems.specs.Logic.{ℕ, zero, suc, List, [], inl, inr, refl, sym, ap, arith, length, get_or, Option}
use Rattle.theorems.specs.Types.{Meaning, Line, Reading, Role, Phase, Course, Book, State, through, made, Value, Relocatable}
use Rattle.values.proofs.Laws.{clash}
use Rattle.lines.specs.Lines.{reading_of}
use Rattle.passes.specs.Cards.{value_at}
use Rattle.operations.specs.Traits.{role_of}
use Rattle.passes.specs.One.{fresh, after_end_no, phase_after, reading_step, step_one, pass_one}
use Rattle.passes.specs.Two.{outset, step_two, entry_by, role_entry, reading_entry, entry_from, book_from}
use Rattle.passes.specs.Assembly.{assembled}
use Rattle.passes.proofs.Fine.{one-zero}
use Rattle.theorems.specs.Grow.{behind, behind_one, behind_two, look_in, counter_one}
use Rattle.theorems.proofs.Grow.{same_counters}
use Rattle.theorems.proofs.Accepted.{pass-each, Fate, fate}
use Rattle.theorems.proofs.Readable.{accepted_source}
use Rattle.theorems.specs.Accepted.{end_one}

abbrev IsEnd : List ℕ → Type 0
IsEnd s = (l : Line) × (reading_of s ≡ Reading.Statement l) × (role_of l.operation ≡ Role.Ends)

-- a card is END, or leaves the entry to the others and ends nothing
abbrev Leaves : List ℕ → Reading → Type 0
Leaves s x =
    ((look : ℕ → Option Meaning) (c : Course) (rest : Option Relocatable) → reading_entry look c s x rest ≡ rest)
    × ((st : State) → (reading_step st s x).phase ≡ Phase.Ended → st.phase ≡ Phase.Ended)

end_or : (s : List ℕ) → IsEnd s ⊎ Leaves s (reading_of s)
end_or s = go (reading_of s) refl
  where
    other : (l : Line) (r : Role) → role_of l.operation ≡ r → ((v : Option Value) (rest : Option Relocatable) → role_entry r v rest ≡ rest)
        → ((p : Phase) → phase_after r p ≡ Phase.Ended → p ≡ Phase.Ended)
        → IsEnd s ⊎ Leaves s (Reading.Statement l)
    other l r e entry phase = inr (rw e (λ look c rest. entry (value_at look c.counter s l) rest, λ st. phase st.phase))

    by : (l : Line) → reading_of s ≡ Reading.Statement l → (r : Role) → role_of l.operation ≡ r → IsEnd s ⊎ Leaves s (Reading.Statement l)
    by l q Role.Starts e = other l Role.Starts e (λ v rest. refl) (λ p h. cc)
    by l q Role.Equates e = other l Role.Equates e (λ v rest. refl) (λ p h. h)
    by l q Role.SetsCounter e = other l Role.SetsCounter e (λ v rest. refl) (λ p h. h)
    by l q Role.Ends e = inl (l, q, e)
    by l q Role.Advances e = other l Role.Advances e (λ v rest. refl) (λ p h. h)

    go : (x : Reading) → reading_of s ≡ x → IsEnd s ⊎ Leaves s x
    go Reading.Comment q = inr (λ look c rest. refl, λ st h. h)
    go Reading.BadName q = inr (λ look c rest. refl, λ st h. h)
    go (Reading.Statement l) q = by l q (role_of l.operation) refl

unless_end : {X : Type 0} (s : List ℕ) → (IsEnd s → X) → (Leaves s (reading_of s) → X) → X
unless_end s f g = elim (end_or s) [ inl e ↦ f e | inr x ↦ g x ]

ended-behind : (st : State) (s : List ℕ) → IsEnd s → (step_one st s).phase ≡ Phase.Ended
unfolding step_one
ended-behind st s (l, q, r) = ap (λ x. (reading_step st s x).phase) q ∙ ap (λ x. phase_after x st.phase) r

behind-next : (n : ℕ) (st : State) (ss : List (List ℕ)) → n < length ss → behind_one (suc n) st ss ≡ step_one (behind_one n st ss) (get_or ss n [])
unfolding behind
behind-next n st [] h = absurd (omega arith)
behind-next zero st (s ∷ ss) h = refl
behind-next (suc n) st (s ∷ ss) h = behind-next n (step_one st s) ss (omega arith)

entry_at : (look : ℕ → Option Meaning) (n : ℕ) (ss : List (List ℕ)) (c : Course) → n < length ss → ((i : ℕ) → i < n → IsEnd (get_or ss i []) → ⊥)
    → (l : Line) → reading_of (get_or ss n []) ≡ Reading.Statement l → role_of l.operation ≡ Role.Ends
    → entry_from look c ss ≡ entry_by (value_at look (behind_two look n c ss).counter (get_or ss n []) l)
unfolding behind entry_from
entry_at look n [] c i none l q r = absurd (omega arith)
entry_at look zero (s ∷ ss) c i none l q r =
    ap (λ x. reading_entry look c s x (entry_from look (step_two look c s) ss)) q
    ∙ ap (λ x. role_entry x (value_at look c.counter s l) (entry_from look (step_two look c s) ss)) r
entry_at look (suc n) (s ∷ ss) c i none l q r =
    unless_end s (λ e. absurd (none 0 (omega arith) e)) (λ x. x.0 look c (entry_from look (step_two look c s) ss))
    ∙ entry_at look n ss (step_two look c s) (omega arith) (λ j h. none (suc j) (omega arith)) l q r

-- one card behind END would be refused by 9
module _ (ss : List (List ℕ)) (a : State) (one : pass_one 1 fresh ss ≡ through a) where
  not-ended : (k : ℕ) → k < length ss → (behind_one k fresh ss).phase ≡ Phase.Ended → ⊥
  not-ended k i e = let no = ap after_end_no (sym e) ∙ (one-zero _ _ (pass-each ss 1 fresh a one k i)).0 in omega arith

  only-last : (k : ℕ) → suc k < length ss → IsEnd (get_or ss k []) → ⊥
  only-last k i e = not-ended (suc k) i (ap (λ (x : State). x.phase) (behind-next k fresh ss (omega arith)) ∙ ended-behind (behind_one k fresh ss) (get_or ss k []) e)

-- the last card of an accepted source is END
pub end-last : (ss : List (List ℕ)) (n : ℕ) (b : Book) → assembled ss ≡ made n b
    → (k : ℕ) × (l : Line) × (length ss ≡ suc k) × (reading_of (get_or ss k []) ≡ Reading.Statement l) × (role_of l.operation ≡ Role.Ends)
unfolding behind step_one
end-last ss n b h = go (length ss) refl (rw h at (fate ss))
  where
    go : {n : ℕ} {b : Book} (m : ℕ) → length ss ≡ m → Fate ss (made n b)
        → (k : ℕ) × (l : Line) × (length ss ≡ suc k) × (reading_of (get_or ss k []) ≡ Reading.Statement l) × (role_of l.operation ≡ Role.Ends)
    go zero m (Fate.both each end each' e no-bad) = let none = ap (λ n. (behind_one n fresh ss).phase) m in clash (cc)
    go (suc k) m (Fate.both each end each' e no-bad) =
        let next = ap (λ n. (behind_one n fresh ss).phase) m ∙ ap (λ (x : State). x.phase) (behind-next k fresh ss (omega arith)) in
        let (l, q, r) = unless_end (get_or ss k []) (λ e. e) (λ x. absurd (not-ended ss (end_one ss) e k (omega arith) (x.1 (behind_one k fresh ss) (sym next ∙ end)))) in
        (k, l, m, q, r)

-- the entry of an accepted source is what the operand of its END comes to: none where that is absent
pub entry_exact : (ss : List (List ℕ)) (n : ℕ) (b : Book) → assembled ss ≡ made n b → (k : ℕ) → k < length ss
    → (l : Line) → reading_of (get_or ss k []) ≡ Reading.Statement l → role_of l.operation ≡ Role.Ends
    → b.entry ≡ entry_by (value_at (look_in ss) (counter_one ss k) (get_or ss k []) l)
unfolding book_from
entry_exact ss n b h k i l q r =
    let x = accepted_source ss n b h in
    let none : (j : ℕ) → j < k → IsEnd (get_or ss j []) → ⊥ = λ j m. only-last ss x.end x.one j (omega arith) in
    ap (λ (x : Book). x.entry) x.book ∙ entry_at (look_in ss) k ss outset i none l q r
    ∙ ap (λ here. entry_by (value_at (look_in ss) here (get_or ss k []) l)) (same_counters ss x.end x.one k)
