-- Pass one over what it looks at of an operand is pass one; what a line that is let through enters; a turn over the cards.
use Prim.Native.Nat.{ℕ, zero, suc, ◌+◌, ◌-◌, ◌≤◌, ◌<◌, ◌^◌}
use mathlib.Core.List.{List, [], ◌∷◌}
use mathlib.Core.Path.{◌≡◌, refl, sym, ap, ◌∙◌}
use native.Mathlib.Nat.{not-suc-le-zero}
use native.Mathlib.Numerals.{sub-one}
use native.Mathlib.Omega.{arith}
use lib.ListN.{length, drop, get_or}
use Rattle.std.proofs.lemmas.List.{at_drop_more, at_drop_all}
use Rattle.values.specs.Words.{part}
use Rattle.cards.specs.Source.{columns_of, cards_from}
use Rattle.names.specs.Names.{find, name_refusal}
use Rattle.names.proofs.Names.{ascending-none}
use Rattle.names.proofs.Table.{names-none}
use Rattle.forms.specs.Size.{size_of}
use Rattle.lines.specs.declared.Line.{Line}
use Rattle.lines.specs.declared.Reading.TheVariants.{Statement}
use Rattle.lines.specs.Lines.{reading_of}
use Rattle.lines.proofs.Laws.{line-within}
use Rattle.operations.specs.declared.traits.Role.{Role}
use Rattle.operations.specs.declared.traits.Role.TheVariants.{Starts, Equates, SetsCounter, Ends, Advances}
use Rattle.operations.specs.Traits.{role_of}
use Rattle.passes.specs.Cards.{value_at, counter_by, counter_after, name_value_by, name_value}
use Rattle.passes.specs.One.{State, fresh, most_names, if_named, sizes_no, over_no, line_no, names_after, line_step, one_no, step_one, ended_as, pass_one}
use Rattle.passes.specs.declared.Phase.{Phase}
use Rattle.passes.specs.declared.Phase.TheVariants.{Before, Within, Ended}
use Rattle.passes.specs.One.Passed.{through, stopped}
use Rattle.passes.proofs.Turns.{pass-more, pass-stop, pass-end}
use Rattle.passes.proofs.Fine.{fine, one-zero}
use Rattle.passes.proofs.Counter.{step-low}
use Rattle.passes.proofs.Names.{step-ascending}
use Rattle.passes.proofs.Named.{sizes-fit, length-short}
use Rattle.defining.specs.Entering.{over_by, Enters}
use Rattle.pass_one.specs.declared.Pass.{Pass}
use Rattle.pass_one.specs.Code.{looked_at_by, early_value, line_step_by, stands_for, Fit}
use Rattle.values.specs.declared.Value.{Value}
use Rattle.std.specs.Prelude.{Option, Some, Result, Ok, Err, is_ok}
use Rattle.values.specs.declared.refusals.Refusal.{Refusal}
use Rattle.values.specs.Refusals.{number_in}
use Rattle.values.proofs.Laws.{clash}
use mathlib.Core.Bool.{true}
use Rattle.names.specs.declared.Meaning.{Meaning}

-- THE OPERAND THAT PASS ONE LOOKS AT

module _ (v : Option Value) (counter : ℕ) (l : Line) where
  early-name : (r : Role) → name_value_by r (looked_at_by r v) counter l ≡ name_value_by r v counter l
  early-name Starts = refl
  early-name Equates = refl
  early-name SetsCounter = refl
  early-name Ends = refl
  early-name Advances = refl

  early-counter : (r : Role) → counter_by r (looked_at_by r v) counter l ≡ counter_by r v counter l
  early-counter Starts = refl
  early-counter Equates = refl
  early-counter SetsCounter = refl
  early-counter Ends = refl
  early-counter Advances = refl

module _ (look : ℕ → Option Meaning) (counter : ℕ) (s : List ℕ) (l : Line) (v : Option Value) (of : v ≡ early_value look counter s l) where
  early-named : name_value_by (role_of l.operation) v counter l ≡ name_value look counter s l
  unfolding name_value
  early-named = rw of (early-name (value_at look counter s l) counter l (role_of l.operation))

  -- 20 of the name, over the value that was looked at
  pub over_is : (r : Role) → r ≡ role_of l.operation → if_named l.name (λ name. over_by r v counter l) ≡ if_named l.name (λ name. over_no look counter s l)
  unfolding over_no
  over_is r is = rw (is, early-named)

module _ (st : State) (s : List ℕ) (l : Line) (v : Option Value) (of : v ≡ early_value (find st.names) st.counter s l) where
  step-is : line_step_by st l v ≡ line_step st s l
  unfolding names_after counter_after
  step-is = rw (early-named (find st.names) st.counter s l v of, of, early-counter (value_at (find st.names) st.counter s l) st.counter l (role_of l.operation))

-- A LINE THAT IS LET THROUGH

-- of any value, where none of 16, 17, 20 of its name, and 21 holds
pub line_enters_any : (st : State) (l : Line) (v : Option Value) → if_named l.name (name_refusal most_names st.names) ≡ 0
    → if_named l.name (λ name. over_by (role_of l.operation) v st.counter l) ≡ 0 → sizes_no l.shape ≡ 0 → ((name : ℕ) → l.name ≡ Some name → name < 2 ^ 48)
    → Enters st.names (role_of l.operation) v st.counter l
line_enters_any st l v new over sizes name = record {
  new = new;
  low = rw (sizes-fit l.shape sizes) at over;
  short = omega (arith, length-short (role_of l.operation) l.operation l.shape sizes);
  number = name;
}

-- of the value that its operand comes to
pub line_no_enters : (st : State) (s : List ℕ) (l : Line) (v : Option Value) → v ≡ early_value (find st.names) st.counter s l → line_no st s l ≡ 0
    → ((name : ℕ) → l.name ≡ Some name → name < 2 ^ 48) → Enters st.names (role_of l.operation) v st.counter l × (st.counter + size_of l.operation l.shape ≤ 65536)
line_no_enters st s l v of good name =
    let f = fine st s l good in
    let over = over_is (find st.names) st.counter s l v of (role_of l.operation) refl ∙ f.low in
    (line_enters_any st l v f.new over f.sizes name, f.room)

-- .. which a card that is not refused is
pub line_enters : (st : State) (s : List ℕ) (l : Line) (v : Option Value) → reading_of s ≡ Statement l → v ≡ early_value (find st.names) st.counter s l → one_no st s ≡ 0
    → Enters st.names (role_of l.operation) v st.counter l × (st.counter + size_of l.operation l.shape ≤ 65536)
line_enters st s l v is of h =
    let no = (one-zero st s h).2 in
    line_no_enters st s l v of (rw is at no) (line-within s l is).name

-- behind it, part by part
pub line_steps : (st : State) (s : List ℕ) (l : Line) (v : Option Value) → reading_of s ≡ Statement l → v ≡ early_value (find st.names) st.counter s l → line_step_by st l v ≡ step_one st s
unfolding step_one
line_steps st s l v is of = rw is (step-is st s l v of)

-- the names in the table stay fit
pub next_fits : (p q : Pass) (t u s : List ℕ) → one_no (stands_for p t) s ≡ 0 → Fit p t → stands_for q u ≡ step_one (stands_for p t) s → q.count ≤ 512 → Fit q u
next_fits p q t u s h f is few =
    let names = ap (λ (st : State). st.names) is in
    let counter = ap (λ (st : State). st.counter) is in
    record {
      few = few;
      low = rw counter (step-low (stands_for p t) s h f.low);
      ordered = rw names (step-ascending (stands_for p t) s h f.ordered);
    }

-- A TURN OVER THE CARDS

module _ (k width left at : ℕ) (st : State) (source s : List ℕ) (some : 0 < left) (is : s ≡ part source at (columns_of width)) where
  abbrev others : List (List ℕ)
  others = cards_from (left - 1) width source (at + width)

  first : cards_from left width source at ≡ s ∷ others
  unfolding cards_from
  first = go left some
    where
      go : (n : ℕ) → 0 < n → cards_from n width source at ≡ s ∷ cards_from (n - 1) width source (at + width)
      go zero h = absurd (not-suc-le-zero h)
      go (suc n) h = rw (is, sub-one)

  pub turn_more : one_no st s ≡ 0 → pass_one k st (cards_from left width source at) ≡ pass_one (k + 1) (step_one st s) (cards_from (left - 1) width source (at + width))
  turn_more e = ap (pass_one k st) first ∙ pass-more k st s others e

  pub turn_stop : (one_no st s ≡ 0 → ⊥) → pass_one k st (cards_from left width source at) ≡ stopped (one_no st s) k
  turn_stop e = ap (pass_one k st) first ∙ pass-stop k st s others e

pub turn_end : (k width left at : ℕ) (st : State) (source : List ℕ) (phase : Phase) → left ≤ 0 → st.phase ≡ phase
    → pass_one k st (cards_from left width source at) ≡ ended_as phase st
unfolding cards_from
turn_end k width zero at st source phase none e = pass-end k st ∙ ap (λ f. ended_as f st) e
turn_end k width (suc n) at st source phase none e = absurd (not-suc-le-zero none)

-- what is not refused has no number
pub passed_zero : {X : Type 0} (r : Result X Refusal) → true ≡ is_ok r → number_in r ≡ 0
passed_zero (Ok x) e = refl
passed_zero (Err r) e = clash (cc)

-- between two cards, `i` of them behind: the pass over all cards is the pass over those left, from the state now
pub record Ran (cards : List (List ℕ)) (table₀ table : List ℕ) (p : Pass) (i : ℕ) : Type 0 where
  pub same : length table ≡ length table₀
  pub fit : Fit p table
  pub rest : drop 8192 table ≡ drop 8192 table₀
  pub pass : pass_one 1 fresh cards ≡ pass_one (i + 1) (stands_for p table) (drop i cards)

-- before the first
pub ran_none : (cards : List (List ℕ)) (table : List ℕ) → Ran cards table table (record { counter = 0; count = 0; phase = Before }) 0
ran_none cards table = record {
  same = refl;
  fit = record { few = omega arith; low = omega arith; ordered = rw (names-none table) ascending-none };
  rest = refl;
  pass = rw (names-none table);
}

module _ {cards : List (List ℕ)} {table₀ table : List ℕ} {p : Pass} {i : ℕ} (r : Ran cards table₀ table p i) where
  module _ {s : List ℕ} (is : s ≡ get_or cards i []) (some : i < length cards) where
    here : pass_one 1 fresh cards ≡ pass_one (i + 1) (stands_for p table) (s ∷ drop (i + 1) cards)
    here = r.pass ∙ rw is (at_drop_more (pass_one (i + 1) (stands_for p table)) cards i [] some)

    -- behind a card that is let through
    pub ran_more : {u : List ℕ} {q : Pass} → one_no (stands_for p table) s ≡ 0 → stands_for q u ≡ step_one (stands_for p table) s → Fit q u
        → length u ≡ length table → drop 8192 u ≡ drop 8192 table → Ran cards table₀ u q (i + 1)
    ran_more passed step fit same rest = record {
      same = same ∙ r.same;
      fit = fit;
      rest = rest ∙ r.rest;
      pass = here ∙ pass-more (i + 1) (stands_for p table) s (drop (i + 1) cards) passed ∙ ap (λ st. pass_one (i + 1 + 1) st (drop (i + 1) cards)) (sym step);
    }

    -- the pass stops at a card
    pub ran_stop : 0 < one_no (stands_for p table) s → stopped (one_no (stands_for p table) s) (i + 1) ≡ pass_one 1 fresh cards
    ran_stop refused = sym (here ∙ pass-stop (i + 1) (stands_for p table) s (drop (i + 1) cards) (λ z. omega arith))

  -- or ends, where END has been or not
  module _ (none : length cards ≤ i) where
    ended : ended_as p.phase (stands_for p table) ≡ pass_one 1 fresh cards
    ended = sym (r.pass ∙ at_drop_all (pass_one (i + 1) (stands_for p table)) cards i none ∙ pass-end (i + 1) (stands_for p table))

    pub ran_through : p.phase ≡ Ended → through (stands_for p table) ≡ pass_one 1 fresh cards
    ran_through is = sym (ap (λ f. ended_as f (stands_for p table)) is) ∙ ended

    -- 9 of no card, where END has not been
    pub ran_short : {number card : ℕ} → (p.phase ≡ Ended → ⊥) → number ≡ 9 → card ≡ 0 → stopped number card ≡ pass_one 1 fresh cards
    ran_short other nine nowhere = rw (nine, nowhere) (go p.phase other ∙ ended)
      where
        go : (f : Phase) → (f ≡ Ended → ⊥) → stopped 9 0 ≡ ended_as f (stands_for p table)
        go Before n = refl
        go Within n = refl
        go Ended n = absurd (n refl)
