-- What is known of a line that pass one lets through, rule by rule; and what it has seen to on every card.
use Prim.Native.Nat.{ℕ, ◌+◌, ◌≤◌}
use mathlib.Core.List.{List, [], ◌∷◌}
use mathlib.Core.Path.{◌≡◌, refl}
use mathlib.Core.Bool.{Bool, true, false}
use native.Mathlib.Omega.{arith}
use lib.Dec.{leb}
use borrow.Author.Tests.{eq-eqb, le-leb, leb-true}
use Rattle.values.specs.Tests.{pick}
use Rattle.values.proofs.Numbers.{or_zero}
use Rattle.names.specs.Names.{find, name_refusal}
use Rattle.cards.specs.Fields.{byte_no}
use Rattle.operations.specs.Traits.{operation_no, name_no, role_of}
use Rattle.forms.specs.Size.{size_of}
use Rattle.lines.specs.declared.Line.{Line}
use Rattle.lines.specs.declared.Reading.{Reading}
use Rattle.lines.specs.declared.Reading.TheVariants.{Comment, BadName, Statement}
use Rattle.lines.specs.Lines.{reading_of, shape_no}
use Rattle.passes.specs.One.{State, after_end_no, start_no, most_names, if_named, early_no, over_no, sizes_no, room_no, value_no, line_no, reading_no, one_no, step_one, pass_one}
use Rattle.passes.specs.One.Passed.{through}
use Rattle.passes.specs.Sound.{sound_reading, sound}
use Rattle.passes.proofs.Turns.{pass_turn}

pub record Fine (st : State) (s : List ℕ) (l : Line) : Type 0 where
  pub known : operation_no l.operation ≡ 0
  pub started : start_no st.phase (role_of l.operation) ≡ 0
  pub naming : name_no l.operation l.name ≡ 0
  pub formed : shape_no l.shape ≡ 0
  pub new : if_named l.name (name_refusal most_names st.names) ≡ 0
  pub early : early_no (find st.names) st.counter s l ≡ 0
  pub low : if_named l.name (λ name. over_no (find st.names) st.counter s l) ≡ 0
  pub sizes : sizes_no l.shape ≡ 0
  pub room : st.counter + size_of l.operation l.shape ≤ 65536

pub room_fits : (counter size : ℕ) → room_no counter size ≡ 0 → counter + size ≤ 65536
room_fits counter size h = go (leb (counter + size) 65536) refl h
  where
    go : (b : Bool) → leb (counter + size) 65536 ≡ b → pick {X = ℕ} b 0 24 ≡ 0 → counter + size ≤ 65536
    go true e h = leb-true (counter + size) 65536 e
    go false e h = absurd (omega arith)

pub fine : (st : State) (s : List ℕ) (l : Line) → line_no st s l ≡ 0 → Fine st s l
unfolding line_no value_no
fine st s l h =
    let a = or_zero _ _ h in
    let b = or_zero _ _ a.1 in
    let c = or_zero _ _ b.1 in
    let d = or_zero _ _ c.1 in
    let e = or_zero _ _ d.1 in
    let f = or_zero _ _ e.1 in
    let g = or_zero _ _ f.1 in
    let i = or_zero _ _ g.1 in
    record {
      known = a.0;
      started = b.0;
      naming = c.0;
      formed = d.0;
      new = e.0;
      early = f.0;
      low = g.0;
      sizes = i.0;
      room = room_fits st.counter (size_of l.operation l.shape) i.1;
    }

-- a card that goes through is not behind END, has only accepted bytes, and its reading is let through
pub one-zero : (st : State) (s : List ℕ) → one_no st s ≡ 0 → (after_end_no st.phase ≡ 0) × (byte_no s ≡ 0) × (reading_no st s (reading_of s) ≡ 0)
unfolding one_no
one-zero st s h =
    let a = or_zero _ _ h in
    let b = or_zero _ _ a.1 in
    (a.0, b.0, b.1)

sound_reading_lem : (st : State) (s : List ℕ) (x : Reading) → reading_no st s x ≡ 0 → sound_reading x ≡ true
sound_reading_lem st s Comment h = refl
sound_reading_lem st s BadName h = absurd (omega arith)
sound_reading_lem st s (Statement l) h =
    let f = fine st s l h in
    let r = f.room in
    rw (eq-eqb _ _ f.sizes, le-leb (size_of l.operation l.shape) 65536 (omega arith))

pub pass-sound : (ss : List (List ℕ)) (k : ℕ) (st a : State) → pass_one k st ss ≡ through a → sound ss ≡ true
unfolding sound
pass-sound [] k st a h = refl
pass-sound (s ∷ ss) k st a h =
    let t = pass_turn k st a s ss h in
    rw (sound_reading_lem st s (reading_of s) (one-zero st s t.0).2) (pass-sound ss (k + 1) (step_one st s) a t.1)
