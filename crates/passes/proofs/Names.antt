-- The names that pass one defines stand in ascending order, and there are at most 512.
use Rattle.std.specs.Prelude.{Option, Some, None}
use Prim.Native.Nat.{ℕ, ◌+◌, ◌≤◌, ◌<◌}
use mathlib.Core.List.{List, [], ◌∷◌}
use mathlib.Core.Path.{◌≡◌, sym, ◌∙◌}
use mathlib.Core.Bool.{true}
use native.Mathlib.Omega.{arith}
use lib.ListN.{length}
use Rattle.values.proofs.Laws.{clash}
use Rattle.names.specs.declared.Name.{Name}
use Rattle.names.specs.Names.{find, defined, ascending, name_refusal}
use Rattle.names.proofs.Names.{defined-length, refusal_none, ascending-defined}
use Rattle.lines.specs.declared.Line.{Line}
use Rattle.lines.specs.declared.Reading.{Reading}
use Rattle.lines.specs.declared.Reading.TheVariants.{Comment, BadName, Statement}
use Rattle.lines.specs.Lines.{reading_of}
use Rattle.passes.specs.declared.Phase.{Phase}
use Rattle.passes.specs.declared.Phase.TheVariants.{Before, Within, Ended}
use Rattle.passes.specs.Cards.{name_value, name_length}
use Rattle.passes.specs.One.{State, most_names, if_named, with_name, defined_as, names_after, reading_no, reading_step, one_no, step_one, pass_one, ended_as}
use Rattle.passes.specs.One.Passed.{through}
use Rattle.passes.proofs.Turns.{pass-end, pass_turn}
use Rattle.passes.proofs.Fine.{fine, one-zero}
use Rattle.values.specs.declared.Value.{Value}

-- what is kept by every name that is new, where there is room for it, is kept by a line
after_keeps : (P : List Name → Type 0) (st : State) (s : List ℕ) (l : Line) → if_named l.name (name_refusal most_names st.names) ≡ 0
    → ((x : Name) → find st.names x.number ≡ None → length st.names < most_names → P (defined x st.names))
    → P st.names → P (names_after st s l)
unfolding names_after
after_keeps P st s l e d p = go (name_value (find st.names) st.counter s l) l.name e
  where
    go : (v : Option Value) (n : Option ℕ) → if_named n (name_refusal most_names st.names) ≡ 0
        → P (with_name n (λ name. defined_as name v (name_length l.operation l.shape) st.names) st.names)
    go v None e = p
    go (Some v) (Some name) e = let r = refusal_none most_names st.names name e in d _ r.0 r.1
    go None (Some name) e = p

after-ascending : (st : State) (s : List ℕ) (l : Line) → if_named l.name (name_refusal most_names st.names) ≡ 0
    → ascending st.names ≡ true → ascending (names_after st s l) ≡ true
after-ascending st s l e h = after_keeps (λ ns. ascending ns ≡ true) st s l e (λ x n f. ascending-defined x st.names h n) h

after-few : (st : State) (s : List ℕ) (l : Line) → if_named l.name (name_refusal most_names st.names) ≡ 0
    → length st.names ≤ most_names → length (names_after st s l) ≤ most_names
after-few st s l e h = after_keeps (λ ns. length ns ≤ most_names) st s l e (λ x n f. omega (arith, defined-length x st.names)) h

-- what every new name keeps, a pass keeps
module _ (P : List Name → Type 0) (keeps : (st : State) (s : List ℕ) (l : Line) → if_named l.name (name_refusal most_names st.names) ≡ 0 → P st.names → P (names_after st s l)) where
  step_keeps : (st : State) (s : List ℕ) → one_no st s ≡ 0 → P st.names → P (step_one st s).names
  unfolding step_one
  step_keeps st s e p = go (reading_of s) (one-zero st s e).2
    where
      go : (x : Reading) → reading_no st s x ≡ 0 → P (reading_step st s x).names
      go Comment e = p
      go BadName e = p
      go (Statement l) e = keeps st s l (fine st s l e).new p

  pass_keeps : (ss : List (List ℕ)) (k : ℕ) (st a : State) → pass_one k st ss ≡ through a → P st.names → P a.names
  pass_keeps [] k st a e p = go st.phase (sym (pass-end k st) ∙ e)
    where
      go : (f : Phase) → ended_as f st ≡ through a → P a.names
      go Before e = clash (cc)
      go Within e = clash (cc)
      go Ended e = let same : a ≡ st = cc in rw same p
  pass_keeps (s ∷ ss) k st a e p =
      let t = pass_turn k st a s ss e in
      pass_keeps ss (k + 1) (step_one st s) a t.1 (step_keeps st s t.0 p)

pub step-ascending : (st : State) (s : List ℕ) → one_no st s ≡ 0 → ascending st.names ≡ true → ascending (step_one st s).names ≡ true
step-ascending = step_keeps (λ ns. ascending ns ≡ true) after-ascending

pub pass-ascending : (ss : List (List ℕ)) (k : ℕ) (st a : State) → pass_one k st ss ≡ through a → ascending st.names ≡ true → ascending a.names ≡ true
pass-ascending = pass_keeps (λ ns. ascending ns ≡ true) after-ascending

pub pass-few : (ss : List (List ℕ)) (k : ℕ) (st a : State) → pass_one k st ss ≡ through a → length st.names ≤ most_names → length a.names ≤ most_names
pass-few = pass_keeps (λ ns. length ns ≤ most_names) after-few
