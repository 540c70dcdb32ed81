-- THE PASSES AGREE (R13.5). EQU and ORG use only earlier names (R7.7), and names only grow, so pass two finds there what pass one found:
-- it refuses no EQU and no ORG, and its counter before every card is pass one's.
use Rattle.std.specs.Prelude.{◌+◌, ◌≤◌, ◌<◌, ◌∷◌, ◌≡◌, ◌⊎◌}
use Rattle.std.proofs.Common.{◌∙◌}
use Rattle.theorems.specs.Logic.{ℕ, zero, suc, List, [], map, Bool, true, false, refl, sym, ap, subst, arith, eqb, eqb-true, inl, inr, length, get_or, Option, None, Some, Result, Ok, Err}
use Rattle.theorems.specs.Types.{Value, Term, Name, Meaning, Factor, Line, Reading, Shape, Operands, Bases, Role, Course, Pattern, Addend, Read, State, through, Fault}
use Rattle.values.specs.Tests.{pick, or_else}
use Rattle.names.specs.Names.{meaning, find, defined, name_refusal}
use Rattle.names.proofs.Names.{find-defined, refusal_none}
use Rattle.expressions.specs.Form.{Placed, expression_at}
use Rattle.expressions.specs.Form.Read.{up_to}
use Rattle.expressions.specs.Value.{meaning_factor, factor_at, placed_factor, addend_factors, any_undefined, undefined_in, any_unknown, sum_of, by_kind, value_of, evaluated, value_in}
use Rattle.lines.specs.Lines.{reading_of, operand_columns, shape_no}
use Rattle.passes.specs.Cards.{name_value, name_length, operands_at, counter_by, counter_after, value_at, name_value_by}
use Rattle.passes.specs.One.{defined_as, most_names, if_named, with_name, reading_no, one_no, names_after, reading_step, step_one, pass_one, fresh, early_by, early_no}
use Rattle.passes.proofs.Turns.{pass_turn}
use Rattle.passes.proofs.Fine.{fine, one-zero, Fine}
use Rattle.expressions.proofs.Laws.{accepted, Accepted}
use Rattle.operands.specs.Operands.{operands_of}
use Rattle.operands.specs.Kinds.{expressions_no}
use Rattle.places.specs.Codes.{code_of}
use Rattle.places.specs.Places.{places_no}
use Rattle.statements.specs.Statements.{lone_value, statement_no}
use Rattle.operations.specs.Traits.{role_of, traits_of, first_wanted}
use Rattle.passes.specs.Two.{outset, reading_two_no, two_no, reading_two_step, step_two}
use Rattle.passes.proofs.Counter.{step-low}
use Rattle.theorems.specs.Grow.{Keeps, behind, behind_one, behind_two, names_by, look_in, counter_one, counter_two, reading_size, card_size}
use Rattle.theorems.proofs.Raising.{either-false}
use Rattle.theorems.proofs.Accepted.{let_through, pass-ended, pass-each}
use Rattle.theorems.proofs.Lines.{Has, line_has, early_role, Early, row_of}
use Rattle.expressions.specs.declared.Fault.TheVariants.{Undefined, WrongKind}

-- EXPRESSIONS

-- a sum that has a value has no name that is not defined
none-unknown : (ys : List (Addend Factor)) (v : Value) → value_of (sum_of ys) ≡ Ok v → any_unknown ys ≡ false
unfolding value_of
none-unknown ys v h = go (any_unknown ys) h
  where
    go : (b : Bool) → pick b (Err Undefined) (pick (sum_of ys).mixed (Err WrongKind) (by_kind (sum_of ys))) ≡ Ok v → b ≡ false
    go true h = cc
    go false h = refl

module _ (look more : ℕ → Option Meaning) (keeps : Keeps look more) (here : ℕ) where
  factor_kept : (t : Result (Term × ℕ) ℕ) → (factor_at look here t).undefined ≡ false → factor_at more here t ≡ factor_at look here t
  factor_kept (Ok (Term.Number v, q)) e = refl
  factor_kept (Ok (Term.Symbol k, q)) e = go (look k) refl e
    where
      go : (x : Option Meaning) → look k ≡ x → (meaning_factor x).undefined ≡ false → meaning_factor (more k) ≡ meaning_factor x
      go (Some m) h e = ap meaning_factor (keeps k m.value m.length h)
      go None h e = cc
  factor_kept (Ok (Term.Here, q)) e = refl
  factor_kept (Err q) e = refl

  factors_kept : (xs : List Placed) → any_undefined (map (placed_factor look here) xs) ≡ false → map (placed_factor more here) xs ≡ map (placed_factor look here) xs
  unfolding any_undefined
  factors_kept [] e = refl
  factors_kept (x ∷ xs) e =
      let (a, b) = either-false (placed_factor look here x).undefined (any_undefined (map (placed_factor look here) xs)) e in
      rw (factor_kept x.term a, factors_kept xs b)

  addend_kept : (a : Addend Placed) → undefined_in (addend_factors look here a).product ≡ false → addend_factors more here a ≡ addend_factors look here a
  addend_kept a e =
      let (f, fs) = either-false (placed_factor look here a.product.first).undefined (any_undefined (map (placed_factor look here) a.product.others)) e in
      rw (factor_kept a.product.first.term f, factors_kept a.product.others fs)

  addends_kept : (xs : List (Addend Placed)) → any_unknown (map (addend_factors look here) xs) ≡ false
      → map (addend_factors more here) xs ≡ map (addend_factors look here) xs
  unfolding any_unknown
  addends_kept [] e = refl
  addends_kept (x ∷ xs) e =
      let (a, b) = either-false (undefined_in (addend_factors look here x).product) (any_unknown (map (addend_factors look here) xs)) e in
      rw (addend_kept x a, addends_kept xs b)

  -- R7.7: a value that was told over earlier names is the value over all names
  pub value-kept : (e : Read (List (Addend Placed))) (v : Value) → evaluated look here e ≡ Ok v → evaluated more here e ≡ Ok v
  unfolding evaluated
  value-kept (up_to xs q) v h = ap (λ ys. value_of (sum_of ys)) (addends_kept xs (none-unknown (map (addend_factors look here) xs) v h)) ∙ h
  value-kept (Read.fails q) v h = cc

-- NAMES

-- a name that is new (refusal 16) leaves the others as they were
defined_keeps : (x : Name) (ns : List Name) → find ns x.number ≡ None → Keeps (find ns) (find (defined x ns))
defined_keeps x ns new k v l h = find-defined x ns k ∙ go (eqb x.number k) refl
  where
    go : (b : Bool) → eqb x.number k ≡ b → pick b (Some (meaning x.value x.length)) (find ns k) ≡ Some (meaning v l)
    go true e =
        let same = eqb-true x.number k e in
        let none : find ns k ≡ None = ap (find ns) (sym same) ∙ new in
        let z : ◌≡◌ {A = ℕ} 0 1 = cc in
        absurd (omega arith)
    go false e = h

names-keep : (st : State) (s : List ℕ) (l : Line) → if_named l.name (name_refusal most_names st.names) ≡ 0 → Keeps (find st.names) (find (names_after st s l))
unfolding names_after
names-keep st s l new = go l.name new (name_value (find st.names) st.counter s l)
  where
    go : (name : Option ℕ) → if_named name (name_refusal most_names st.names) ≡ 0 → (v : Option Value)
        → Keeps (find st.names) (find (with_name name (λ k. defined_as k v (name_length l.operation l.shape) st.names) st.names))
    go None e v = λ k v n h. h
    go (Some name) e (Some v) =
        defined_keeps (record { number = name; value = v; length = name_length l.operation l.shape }) st.names (refusal_none most_names st.names name e).0
    go (Some name) e None = λ k v n h. h

step_keeps : (st : State) (s : List ℕ) → one_no st s ≡ 0 → Keeps (find st.names) (find (step_one st s).names)
unfolding step_one
step_keeps st s e = let_through st s e (λ x. Keeps (find st.names) (find (reading_step st s x).names)) (λ k v n h. h) (λ l q f. names-keep st s l f.new)

-- R3.3: NAMES ONLY GROW over pass one: a name that was found at some card keeps its value and its length to the end
pub names_grow : (ss : List (List ℕ)) (k : ℕ) (st a : State) → pass_one k st ss ≡ through a → Keeps (find st.names) (find a.names)
names_grow [] k st a h name v n e = ap (λ (x : State). find x.names name) (pass-ended k st a h).0 ∙ e
names_grow (s ∷ ss) k st a h name v n e =
    let t = pass_turn k st a s ss h in
    names_grow ss (k + 1) (step_one st s) a t.1 name v n (step_keeps st s t.0 name v n e)

-- A LINE that pass one lets through

module _ (st : State) (s : List ℕ) (l : Line) (reads : reading_of s ≡ Reading.Statement l) (f : Fine st s l) where
  abbrev operands : Operands
  operands = operands_at (find st.names) st.counter s l

  abbrev first : Result Value Fault
  first = evaluated (find st.names) st.counter (expression_at (operand_columns s l) 0)

  -- EQU and ORG: an expression alone, which is not refused
  module _ (e : early_role (role_of l.operation) ≡ true) where
    row : Early true (traits_of l.operation)
    row = subst (λ b. Early b (traits_of l.operation)) e (row_of l.operation).early

    is-expression : l.shape ≡ Ok Shape.Expression
    is-expression = go (rw row.0 at (line_has s l reads)) f.formed
      where
        go : {x : Result Shape ℕ} → Has Pattern.Expression x → shape_no x ≡ 0 → x ≡ Ok Shape.Expression
        go Has.fails h = absurd (omega arith)
        go Has.lone h = refl

    expression-fine : expressions_no l.operation operands ≡ 0
    unfolding early_no
    expression-fine = go (role_of l.operation) e f.early
      where
        go : (r : Role) → early_role r ≡ true → early_by r l.operation operands ≡ 0 → expressions_no l.operation operands ≡ 0
        go Role.Starts e h = cc
        go Role.Equates e h = h
        go Role.SetsCounter e h = h
        go Role.Ends e h = cc
        go Role.Advances e h = cc

    first_fine : Accepted (first_wanted l.operation) first
    unfolding operands_of expressions_no
    first_fine = accepted (first_wanted l.operation) first (rw is-expression at expression-fine)

  -- a name has a value
  pub line-value : (v : Value) × (name_value (find st.names) st.counter s l ≡ Some v)
  unfolding name_value operands_of
  line-value = go (role_of l.operation) refl
    where
      go : (r : Role) → role_of l.operation ≡ r → (v : Value) × (name_value_by r (value_at (find st.names) st.counter s l) st.counter l ≡ Some v)
      go Role.Starts e = (_, refl)
      go Role.Equates e =
          let x = first_fine (ap early_role e) in
          (x.value, ap (λ y. lone_value (operands_of (find st.names) st.counter (operand_columns s l) y)) (is-expression (ap early_role e)) ∙ ap value_in x.good)
      go Role.SetsCounter e = (_, refl)
      go Role.Ends e = (_, refl)
      go Role.Advances e = (_, refl)

  -- over all names
  module _ (more : ℕ → Option Meaning) (keeps : Keeps (find st.names) more) where
    same_operands : early_role (role_of l.operation) ≡ true → operands_at more st.counter s l ≡ operands
    unfolding operands_of
    same_operands e =
        let x = first_fine e in
        rw (is-expression e) (ap Operands.Lone (value-kept (find st.names) more keeps st.counter (expression_at (operand_columns s l) 0) x.value x.good ∙ sym x.good))

    -- what pass one did not refuse, pass two does not
    line-again : early_role (role_of l.operation) ≡ true → (bases : Bases) → reading_two_no more (record { counter = st.counter; bases = bases }) s (Reading.Statement l) ≡ 0
    unfolding statement_no or_else operands_of code_of places_no
    line-again e bases = rw (same_operands e, expression-fine e, is-expression e, (row e).1, (row e).2)

    line-counter : counter_after more st.counter s l ≡ counter_after (find st.names) st.counter s l
    unfolding counter_after
    line-counter = go (role_of l.operation) refl
      where
        go : (r : Role) → role_of l.operation ≡ r → counter_by r (value_at more st.counter s l) st.counter l ≡ counter_by r (value_at (find st.names) st.counter s l) st.counter l
        go Role.Starts e = refl
        go Role.Equates e = refl
        go Role.SetsCounter e = rw (same_operands (ap early_role e))
        go Role.Ends e = refl
        go Role.Advances e = refl

-- A CARD

module _ (st : State) (more : ℕ → Option Meaning) (keeps : Keeps (find st.names) more) (s : List ℕ) (e : one_no st s ≡ 0) (c : Course) (same : c.counter ≡ st.counter) where
  pub card-counter : (step_two more c s).counter ≡ (step_one st s).counter
  unfolding step_two step_one
  card-counter =
      let_through st s e (λ x. (reading_two_step more c s x).counter ≡ (reading_step st s x).counter) same
      (λ l q f. ap (λ (n : ℕ). counter_after more n s l) same ∙ line-counter st s l q f more keeps)

  card-again : (l : Line) → reading_of s ≡ Reading.Statement l → early_role (role_of l.operation) ≡ true → two_no more c s ≡ 0
  unfolding two_no
  card-again l q r =
      ap (reading_two_no more c s) q
      ∙ ap (λ (n : ℕ). reading_two_no more (record { counter = n; bases = c.bases }) s (Reading.Statement l)) same
      ∙ line-again st s l q (fine st s l (ap (reading_no st s) (sym q) ∙ (one-zero st s e).2)) more keeps r c.bases

  pub card-room : st.counter ≤ 65536 → c.counter + card_size s ≤ 65536
  unfolding card_size
  card-room low = let_through st s e (λ x. c.counter + reading_size x ≤ 65536) (omega arith) (λ l q f. let r = f.room in omega arith)

-- ALL CARDS

-- the counter is low enough, pass two has it too, and the names only grow
behind-both : (a : State) (n : ℕ) (ss : List (List ℕ)) (k : ℕ) (st : State) (c : Course) → pass_one k st ss ≡ through a → c.counter ≡ st.counter → st.counter ≤ 65536
    → ((behind_one n st ss).counter ≤ 65536) × ((behind_two (find a.names) n c ss).counter ≡ (behind_one n st ss).counter) × Keeps (find (behind_one n st ss).names) (find a.names)
unfolding behind
behind-both a zero ss k st c h e low = (low, e, names_grow ss k st a h)
behind-both a (suc n) [] k st c h e low = (low, e, names_grow [] k st a h)
behind-both a (suc n) (s ∷ ss) k st c h e low =
    let t = pass_turn k st a s ss h in
    behind-both a n ss (k + 1) (step_one st s) (step_two (find a.names) c s) t.1
    (card-counter st (find a.names) (names_grow (s ∷ ss) k st a h) s t.0 c e) (step-low st s t.0 low)

-- THE THEOREMS, of a source that pass one goes through

module _ (ss : List (List ℕ)) (a : State) (h : pass_one 1 fresh ss ≡ through a) where
  -- R3.3: what was known of a name before a card is known of it at the end, value and length
  pub names-only_grow : (n : ℕ) → Keeps (find (behind_one n fresh ss).names) (look_in ss)
  names-only_grow n name v length e = ap (λ p. find (names_by p) name) h ∙ (behind-both a n ss 1 fresh outset h refl (omega arith)).2 name v length e

  -- the counter of pass two before every card is the counter that pass one had there
  pub same_counters : (n : ℕ) → counter_two ss n ≡ counter_one ss n
  same_counters n = ap (λ p. (behind_two (find (names_by p)) n outset ss).counter) h ∙ (behind-both a n ss 1 fresh outset h refl (omega arith)).1

  -- R7.2: the bytes of every card end at 65536 at most
  pub room : (n : ℕ) → n < length ss → counter_two ss n + card_size (get_or ss n []) ≤ 65536
  room n i =
      card-room (behind_one n fresh ss) (look_in ss) (names-only_grow n) (get_or ss n []) (pass-each ss 1 fresh a h n i) (behind_two (look_in ss) n outset ss) (same_counters n)
      (behind-both a n ss 1 fresh outset h refl (omega arith)).0

  -- R7.7: an expression that had a value in pass one has the same value in pass two
  pub same-value-again : (n : ℕ) (e : Read (List (Addend Placed))) (v : Value) → evaluated (find (behind_one n fresh ss).names) (counter_one ss n) e ≡ Ok v
      → evaluated (look_in ss) (counter_two ss n) e ≡ Ok v
  same-value-again n e v good =
      ap (λ here. evaluated (look_in ss) here e) (same_counters n)
      ∙ value-kept (find (behind_one n fresh ss).names) (look_in ss) (names-only_grow n) (counter_one ss n) e v good

  -- R13.5: pass two refuses no EQU and no ORG
  pub never-again : (k : ℕ) → k < length ss → (l : Line) → reading_of (get_or ss k []) ≡ Reading.Statement l
      → (role_of l.operation ≡ Role.Equates) ⊎ (role_of l.operation ≡ Role.SetsCounter)
      → two_no (look_in ss) (behind_two (look_in ss) k outset ss) (get_or ss k []) ≡ 0
  never-again k i l q r =
      card-again (behind_one k fresh ss) (look_in ss) (names-only_grow k) (get_or ss k []) (pass-each ss 1 fresh a h k i) (behind_two (look_in ss) k outset ss) (same_counters k) l q (early r)
    where
      early : (role_of l.operation ≡ Role.Equates) ⊎ (role_of l.operation ≡ Role.SetsCounter) → early_role (role_of l.operation) ≡ true
      early (inl e) = ap early_role e
      early (inr e) = ap early_role e
