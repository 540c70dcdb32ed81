-- THE LAW OF RAISING (R21.4, R6.5):
-- every relocatable name and the counter are raised by d.
-- Kinds, undefined names and their positions stay, and so do refusals 18 and 19, whatever becomes of the value: no premise says that either run is accepted.
-- Where both runs have a value, an absolute one stays and a relocatable one is d higher.
-- The form of an expression is no matter of names or counter: `expression_at` takes neither.
use Rattle.std.specs.Prelude.{◌+◌, ◌-◌, ◌*◌, ◌%◌, ◌≤◌, ◌∷◌, ◌≡◌}
use Rattle.std.proofs.Common.{◌∙◌}
use Rattle.theorems.specs.Logic.{ℕ, List, [], map, Bool, true, false, not, refl, sym, ap, fun_ext, add-zero, mul-zero, mul-one, mul-add, arith, ltb, eqb, ltb-false, eqb-true, Option, None, Some, Result, Ok, Err}
use Rattle.theorems.specs.Types.{Value, Term, Meaning, Factor, Kind, Name, Wanted, Product, Addend, Read, Fault}
use Rattle.values.specs.Tests.{pick, either}
use Rattle.names.specs.Raised.{raised_value, raised_meaning, raised_name}
use Rattle.expressions.specs.Form.{Placed}
use Rattle.expressions.specs.Value.{value_factor, meaning_factor, factor_of, factor_at, placed_factor, addend_factors, times, any_relocatable, any_undefined, mixed_with, alone_with, worth, mixed, alone, if_plus, if_minus, counted, added, subtracted, after_plus, after_minus, any_mixed, any_unknown, Sum, sum_of, absolute_of, relocatable_of, value_of, evaluated, suits, kind_of, refusal_for, meaning_length, term_length}
use Rattle.values.proofs.Laws.{clash}
use Rattle.names.specs.Names.{find}
use Rattle.names.proofs.Names.{find-raised}
use Rattle.expressions.specs.Form.Read.{up_to, fails}
use Rattle.theorems.specs.Raising.{raised_look, sort_of, Sort, undefined_places, undefined_terms, undefined_at}
use Rattle.theorems.specs.Raising.Sort.{undefined, no_kind, of_kind, unformed}
use Rattle.expressions.specs.declared.Fault.TheVariants.{Malformed, Undefined, WrongKind, OutOfRange}

pub either-false : (a b : Bool) → either a b ≡ false → (a ≡ false) × (b ≡ false)
either-false true b e = clash (cc)
either-false false b e = (refl, e)

module _ (d : ℕ) where
  -- TERMS

  abbrev pub raised_factor : Factor → Factor
  raised_factor f = record { value = f.value + d * counted f.relocatable; relocatable = f.relocatable; undefined = f.undefined }

  abbrev pub raised_product : Product Factor → Product Factor
  raised_product p = record { first = raised_factor p.first; others = map raised_factor p.others }

  abbrev pub raised_addend : Addend Factor → Addend Factor
  raised_addend a = record { minus = a.minus; product = raised_product a.product }

  module _ (look : ℕ → Option Meaning) (here : ℕ) where
    pub term_raised : (t : Term) → factor_of (raised_look d look) (here + d) t ≡ raised_factor (factor_of look here t)
    term_raised (Term.Number v) = simp (mul-zero, add-zero)
    term_raised (Term.Symbol k) = go (look k)
      where
        known : (v : Value) → value_factor (raised_value d v) ≡ raised_factor (value_factor v)
        known (Value.Absolute a) = simp (mul-zero, add-zero)
        known (Value.Relocatable a) = simp mul-one

        go : (e : Option Meaning) → meaning_factor (raised_meaning d e) ≡ raised_factor (meaning_factor e)
        go (Some m) = known m.value
        go None = simp (mul-zero, add-zero)
    term_raised Term.Here = simp mul-one

    pub factor_raised : (t : Result (Term × ℕ) ℕ) → factor_at (raised_look d look) (here + d) t ≡ raised_factor (factor_at look here t)
    factor_raised (Ok (t, q)) = term_raised t
    factor_raised (Err q) = simp (mul-zero, add-zero)

    factors_raised : (xs : List Placed) → map (placed_factor (raised_look d look) (here + d)) xs ≡ map raised_factor (map (placed_factor look here) xs)
    factors_raised [] = refl
    factors_raised (x ∷ xs) = rw (factor_raised x.term, factors_raised xs)

    addend_raised : (a : Addend Placed) → addend_factors (raised_look d look) (here + d) a ≡ raised_addend (addend_factors look here a)
    addend_raised a = rw (factor_raised a.product.first.term, factors_raised a.product.others)

    pub addends_raised : (xs : List (Addend Placed)) → map (addend_factors (raised_look d look) (here + d)) xs ≡ map raised_addend (map (addend_factors look here) xs)
    addends_raised [] = refl
    addends_raised (a ∷ rest) = rw (addend_raised a, addends_raised rest)

  -- WHAT NEVER DEPENDS ON d

  any_relocatable-raised : (fs : List Factor) → any_relocatable (map raised_factor fs) ≡ any_relocatable fs
  unfolding any_relocatable
  any_relocatable-raised [] = refl
  any_relocatable-raised (f ∷ fs) = rw (any_relocatable-raised fs)

  any_undefined-raised : (fs : List Factor) → any_undefined (map raised_factor fs) ≡ any_undefined fs
  unfolding any_undefined
  any_undefined-raised [] = refl
  any_undefined-raised (f ∷ fs) = rw (any_undefined-raised fs)

  mixed-raised : (f : Factor) (fs : List Factor) → mixed_with (raised_factor f) (map raised_factor fs) ≡ mixed_with f fs
  mixed-raised f [] = refl
  mixed-raised f (g ∷ gs) = any_relocatable-raised (f ∷ g ∷ gs)

  alone-raised : (f : Factor) (fs : List Factor) → alone_with (raised_factor f) (map raised_factor fs) ≡ alone_with f fs
  alone-raised f [] = refl
  alone-raised f (g ∷ gs) = refl

  any_mixed-raised : (xs : List (Addend Factor)) → any_mixed (map raised_addend xs) ≡ any_mixed xs
  unfolding any_mixed
  any_mixed-raised [] = refl
  any_mixed-raised (x ∷ xs) = rw (mixed-raised x.product.first x.product.others, any_mixed-raised xs)

  any_unknown-raised : (xs : List (Addend Factor)) → any_unknown (map raised_addend xs) ≡ any_unknown xs
  unfolding any_unknown
  any_unknown-raised [] = refl
  any_unknown-raised (x ∷ xs) = rw (any_undefined-raised x.product.others, any_unknown-raised xs)

  plus-raised : (xs : List (Addend Factor)) → after_plus (map raised_addend xs) ≡ after_plus xs
  unfolding after_plus
  plus-raised [] = refl
  plus-raised (x ∷ xs) = rw (alone-raised x.product.first x.product.others, plus-raised xs)

  minus-raised : (xs : List (Addend Factor)) → after_minus (map raised_addend xs) ≡ after_minus xs
  unfolding after_minus
  minus-raised [] = refl
  minus-raised (x ∷ xs) = rw (alone-raised x.product.first x.product.others, minus-raised xs)

  -- WHAT IS ADDED AND SUBTRACTED

  -- factors none of which is relocatable stay
  still : (fs : List Factor) → any_relocatable fs ≡ false → map raised_factor fs ≡ fs
  unfolding any_relocatable
  still [] e = refl
  still (f ∷ fs) e =
      let (no_place, others) = either-false f.relocatable (any_relocatable fs) e in
      rw (still fs others, no_place, mul-zero, add-zero, ← no_place)

  -- a product with no relocatable factor stays; a relocatable term alone is d higher
  worth-raised : (p : Product Factor) → mixed p ≡ false → worth (raised_product p) ≡ worth p + d * counted (alone p)
  unfolding times
  worth-raised p e = go p.others e
    where
      all : List Factor → ℕ
      all [] = 0
      all (f ∷ fs) = times f.value fs

      go : (fs : List Factor) → mixed_with p.first fs ≡ false
          → times (raised_factor p.first).value (map raised_factor fs) ≡ times p.first.value fs + d * counted (alone_with p.first fs)
      go [] e = refl
      go (g ∷ gs) e =
          let w : times (raised_factor p.first).value (map raised_factor (g ∷ gs)) ≡ times p.first.value (g ∷ gs) = ap all (still (p.first ∷ g ∷ gs) e) in
          omega arith

  if_plus_lem : (m : Bool) (w c : ℕ) → if_plus m (w + d * c) ≡ if_plus m w + d * if_plus m c
  if_plus_lem true w c = omega arith
  if_plus_lem false w c = refl

  if_minus_lem : (m : Bool) (w c : ℕ) → if_minus m (w + d * c) ≡ if_minus m w + d * if_minus m c
  if_minus_lem true w c = refl
  if_minus_lem false w c = omega arith

  sums_raised : (xs : List (Addend Factor)) → any_mixed xs ≡ false
      → (added (map raised_addend xs) ≡ added xs + d * after_plus xs) × (subtracted (map raised_addend xs) ≡ subtracted xs + d * after_minus xs)
  unfolding any_mixed added subtracted after_plus after_minus
  sums_raised [] e = (omega arith, omega arith)
  sums_raised (x ∷ xs) e =
      let (one, others) = either-false (mixed x.product) (any_mixed xs) e in
      let w = worth-raised x.product one in
      let c = counted (alone x.product) in
      let (p, m) = sums_raised xs others in
      let f = ap (if_plus x.minus) w ∙ if_plus_lem x.minus (worth x.product) c in
      let g = ap (if_minus x.minus) w ∙ if_minus_lem x.minus (worth x.product) c in
      (omega arith, omega arith)

  -- KINDS

  one_sort : (b : Bool) (v : Value) (k : Kind) → sort_of (Ok v) ≡ of_kind k → sort_of (pick b (Err (OutOfRange k)) (Ok v)) ≡ of_kind k
  one_sort true v k e = refl
  one_sort false v k e = e

  absolute_sort : (s : Sum) → sort_of (absolute_of s) ≡ of_kind Kind.Absolute
  absolute_sort s = one_sort (either s.out (either (ltb (s.added + 65536) s.subtracted) (ltb (s.subtracted + 65535) s.added))) _ Kind.Absolute refl

  relocatable_sort : (s : Sum) → sort_of (relocatable_of s) ≡ of_kind Kind.Relocatable
  relocatable_sort s = one_sort (either s.out (either (ltb s.added s.subtracted) (ltb (s.subtracted + 65535) s.added))) _ Kind.Relocatable refl

  pub sum_sort : (xs : List (Addend Factor)) → sort_of (value_of (sum_of (map raised_addend xs))) ≡ sort_of (value_of (sum_of xs))
  unfolding value_of
  sum_sort xs =
      rw (any_unknown-raised xs, any_mixed-raised xs, plus-raised xs, minus-raised xs)
      (go (any_unknown xs) (any_mixed xs) (eqb (after_plus xs) (after_minus xs)) (eqb (after_plus xs) (after_minus xs + 1)) (sum_of (map raised_addend xs)) (sum_of xs))
    where
      go : (a b c e : Bool) (s t : Sum) → sort_of (pick a (Err Undefined) (pick b (Err WrongKind) (pick c (absolute_of s) (pick e (relocatable_of s) (Err WrongKind)))))
          ≡ sort_of (pick a (Err Undefined) (pick b (Err WrongKind) (pick c (absolute_of t) (pick e (relocatable_of t) (Err WrongKind)))))
      go true b c e s t = refl
      go false true c e s t = refl
      go false false true e s t = absolute_sort s ∙ sym (absolute_sort t)
      go false false false true s t = relocatable_sort s ∙ sym (relocatable_sort t)
      go false false false false s t = refl

  -- VALUES

  good-value : (o under over : Bool) (k : Kind) (u v : Value) → pick (either o (either under over)) (Err (OutOfRange k)) (Ok u) ≡ Ok v → (under ≡ false) × (v ≡ u)
  good-value true under over k u v e = clash (cc)
  good-value false true over k u v e = clash (cc)
  good-value false false true k u v e = clash (cc)
  good-value false false false k u v e = (refl, cc)

  good-absolute : (s : Sum) (v : Value) → absolute_of s ≡ Ok v
      → (s.subtracted ≤ s.added + 65536) × (v ≡ Value.Absolute (record { 0 = (s.added + 65536 - s.subtracted) % 65536 }))
  good-absolute s v e =
      let (h, is) = good-value s.out (ltb (s.added + 65536) s.subtracted) (ltb (s.subtracted + 65535) s.added) Kind.Absolute (Value.Absolute (record { 0 = (s.added + 65536 - s.subtracted) % 65536 })) v e in
      (ltb-false (s.added + 65536) s.subtracted h, is)

  good-relocatable : (s : Sum) (v : Value) → relocatable_of s ≡ Ok v → (s.subtracted ≤ s.added) × (v ≡ Value.Relocatable (record { 0 = s.added - s.subtracted }))
  good-relocatable s v e =
      let (h, is) = good-value s.out (ltb s.added s.subtracted) (ltb (s.subtracted + 65535) s.added) Kind.Relocatable (Value.Relocatable (record { 0 = s.added - s.subtracted })) v e in
      (ltb-false s.added s.subtracted h, is)

  module _ (xs : List (Addend Factor)) (v w : Value) (m : any_mixed xs ≡ false) where
    absolute_stays : after_plus xs ≡ after_minus xs → absolute_of (sum_of xs) ≡ Ok v → absolute_of (sum_of (map raised_addend xs)) ≡ Ok w → w ≡ raised_value d v
    absolute_stays k e f =
        let (l, i) = good-absolute (sum_of xs) v e in
        let (l', j) = good-absolute (sum_of (map raised_addend xs)) w f in
        let (a, s) = sums_raised xs m in
        let c : d * after_plus xs ≡ d * after_minus xs = ap (λ (n : ℕ). d * n) k in
        let q : (added (map raised_addend xs) + 65536 - subtracted (map raised_addend xs)) % 65536 ≡ (added xs + 65536 - subtracted xs) % 65536 = ap (λ (n : ℕ). n % 65536) (omega arith) in
        j ∙ ap (λ (n : ℕ). Value.Absolute (record { 0 = n })) q ∙ sym (ap (raised_value d) i)

    relocatable_moves : after_plus xs ≡ after_minus xs + 1 → relocatable_of (sum_of xs) ≡ Ok v → relocatable_of (sum_of (map raised_addend xs)) ≡ Ok w → w ≡ raised_value d v
    relocatable_moves k e f =
        let (l, i) = good-relocatable (sum_of xs) v e in
        let (l', j) = good-relocatable (sum_of (map raised_addend xs)) w f in
        let (a, s) = sums_raised xs m in
        let c : d * after_plus xs ≡ d * after_minus xs + d * 1 = ap (λ (n : ℕ). d * n) k ∙ mul-add d (after_minus xs) 1 in
        let q : added (map raised_addend xs) - subtracted (map raised_addend xs) ≡ added xs - subtracted xs + d = omega arith in
        j ∙ ap (λ (n : ℕ). Value.Relocatable (record { 0 = n })) q ∙ sym (ap (raised_value d) i)

  pub sum_raised : (xs : List (Addend Factor)) (v w : Value) → value_of (sum_of xs) ≡ Ok v → value_of (sum_of (map raised_addend xs)) ≡ Ok w → w ≡ raised_value d v
  unfolding value_of
  sum_raised xs v w e f =
      go (any_unknown xs) (any_mixed xs) refl (eqb (after_plus xs) (after_minus xs)) refl (eqb (after_plus xs) (after_minus xs + 1)) refl e
      (rw (any_unknown-raised xs, any_mixed-raised xs, plus-raised xs, minus-raised xs) at f)
    where
      go : (a b : Bool) → any_mixed xs ≡ b → (c : Bool) → eqb (after_plus xs) (after_minus xs) ≡ c → (g : Bool) → eqb (after_plus xs) (after_minus xs + 1) ≡ g
          → pick a (Err Undefined) (pick b (Err WrongKind) (pick c (absolute_of (sum_of xs)) (pick g (relocatable_of (sum_of xs)) (Err WrongKind)))) ≡ Ok v
          → pick a (Err Undefined) (pick b (Err WrongKind) (pick c (absolute_of (sum_of (map raised_addend xs))) (pick g (relocatable_of (sum_of (map raised_addend xs))) (Err WrongKind)))) ≡ Ok w
          → w ≡ raised_value d v
      go true b m c k g n e f = clash (cc)
      go false true m c k g n e f = clash (cc)
      go false false m true k g n e f = absolute_stays xs v w m (eqb-true (after_plus xs) (after_minus xs) k) e f
      go false false m false k true n e f = relocatable_moves xs v w m (eqb-true (after_plus xs) (after_minus xs + 1) n) e f
      go false false m false k false n e f = clash (cc)

-- ONE EXPRESSION, over whatever the names say

module _ (d : ℕ) (look : ℕ → Option Meaning) (here : ℕ) where
  sort_raised : (e : Read (List (Addend Placed))) → sort_of (evaluated (raised_look d look) (here + d) e) ≡ sort_of (evaluated look here e)
  unfolding evaluated
  sort_raised (up_to xs q) = rw (addends_raised d look here xs) (sum_sort d (map (addend_factors look here) xs))
  sort_raised (fails q) = refl

  value-raised : (e : Read (List (Addend Placed))) (v w : Value) → evaluated look here e ≡ Ok v → evaluated (raised_look d look) (here + d) e ≡ Ok w → w ≡ raised_value d v
  unfolding evaluated
  value-raised (up_to xs q) v w e f = sum_raised d (map (addend_factors look here) xs) v w e (rw (addends_raised d look here xs) at f)
  value-raised (fails q) v w e f = clash (cc)

  places-raised : (xs : List Placed) → undefined_places (raised_look d look) (here + d) xs ≡ undefined_places look here xs
  unfolding undefined_places
  places-raised [] = refl
  places-raised (x ∷ xs) = rw (factor_raised d look here x.term, places-raised xs)

  terms_raised : (xs : List (Addend Placed)) → undefined_terms (raised_look d look) (here + d) xs ≡ undefined_terms look here xs
  unfolding undefined_terms
  terms_raised [] = refl
  terms_raised (a ∷ rest) = rw (places-raised (a.product.first ∷ a.product.others), terms_raised rest)

  length-raised : (t : Result (Term × ℕ) ℕ) → term_length (raised_look d look) t ≡ term_length look t
  length-raised (Ok (Term.Number v, q)) = refl
  length-raised (Ok (Term.Symbol k, q)) = go (look k)
    where
      go : (e : Option Meaning) → meaning_length (raised_meaning d e) ≡ meaning_length e
      go (Some m) = refl
      go None = refl
  length-raised (Ok (Term.Here, q)) = refl
  length-raised (Err q) = refl

-- REFUSALS 18 AND 19 are told by what is known before the value

abbrev is18 : Sort → Bool
is18 unformed = false
is18 undefined = true
is18 no_kind = false
is18 (of_kind k) = false

abbrev is19 : Wanted → Sort → Bool
is19 w unformed = false
is19 w undefined = false
is19 w no_kind = true
is19 w (of_kind k) = not (suits w k)

told : (w : Wanted) (e : Result Value Fault) → (eqb (refusal_for w e) 18 ≡ is18 (sort_of e)) × (eqb (refusal_for w e) 19 ≡ is19 w (sort_of e))
told w (Ok v) = go (suits w (kind_of v))
  where
    go : (b : Bool) → (eqb (pick b 0 19) 18 ≡ false) × (eqb (pick b 0 19) 19 ≡ not b)
    go true = (refl, refl)
    go false = (refl, refl)
told w (Err Malformed) = (refl, refl)
told w (Err Undefined) = (refl, refl)
told w (Err WrongKind) = (refl, refl)
told w (Err (OutOfRange k)) = go (suits w k)
  where
    go : (b : Bool) → (eqb (pick b 20 19) 18 ≡ false) × (eqb (pick b 20 19) 19 ≡ not b)
    go true = (refl, refl)
    go false = (refl, refl)

-- THE LAW, over the names of an assembly

look-raised : (d : ℕ) (ns : List Name) → find (map (raised_name d) ns) ≡ raised_look d (find ns)
look-raised d ns = fun_ext (find-raised d ns)

module _ (d : ℕ) (ns : List Name) (here : ℕ) (e : Read (List (Addend Placed))) where
  abbrev raised : Result Value Fault
  raised = evaluated (find (map (raised_name d) ns)) (here + d) e

  -- where both have a value, an absolute one stays and a relocatable one is d higher
  pub expression-raised : (v w : Value) → evaluated (find ns) here e ≡ Ok v → evaluated (find (map (raised_name d) ns)) (here + d) e ≡ Ok w → w ≡ raised_value d v
  expression-raised v w p q = value-raised d (find ns) here e v w p (rw (look-raised d ns) at q)

  -- the kind, that there is none, that a name is not defined, that the form is wrong: the same in both
  pub kind-raised : sort_of (evaluated (find (map (raised_name d) ns)) (here + d) e) ≡ sort_of (evaluated (find ns) here e)
  kind-raised = rw (look-raised d ns) (sort_raised d (find ns) here e)

  -- refusal 18, and 19 at a place that wants any kind or one of them
  pub refusal_18_raised : (w : Wanted) → eqb (refusal_for w (evaluated (find (map (raised_name d) ns)) (here + d) e)) 18 ≡ eqb (refusal_for w (evaluated (find ns) here e)) 18
  refusal_18_raised w = (told w raised).0 ∙ ap is18 kind-raised ∙ sym (told w (evaluated (find ns) here e)).0

  pub refusal_19_raised : (w : Wanted) → eqb (refusal_for w (evaluated (find (map (raised_name d) ns)) (here + d) e)) 19 ≡ eqb (refusal_for w (evaluated (find ns) here e)) 19
  refusal_19_raised w = (told w raised).1 ∙ ap (is19 w) kind-raised ∙ sym (told w (evaluated (find ns) here e)).1

  -- the positions of the names that are not defined
  pub undefined-raised : undefined_at (find (map (raised_name d) ns)) (here + d) e ≡ undefined_at (find ns) here e
  undefined-raised = rw (look-raised d ns) (go e)
    where
      go : (e : Read (List (Addend Placed))) → undefined_at (raised_look d (find ns)) (here + d) e ≡ undefined_at (find ns) here e
      go (up_to xs q) = terms_raised d (find ns) here xs
      go (fails q) = refl

-- the length that an expression implies
pub implied_raised : (d : ℕ) (ns : List Name) (t : Result (Term × ℕ) ℕ) → term_length (find (map (raised_name d) ns)) t ≡ term_length (find ns) t
implied_raised d ns t = rw (look-raised d ns) (length-raised d (find ns) 0 t)
