-- Laws of cards: a turn of each reader, and where the fields of a card lie.
use Prim.Native.Nat.{ℕ, zero, suc, ◌+◌, ◌-◌, ◌≤◌, ◌<◌}
use mathlib.Core.List.{List, [], ◌∷◌, ◌++◌}
use mathlib.Core.Path.{◌≡◌, refl, ap, ◌∙◌}
use mathlib.Core.Bool.{Bool, true, false, not}
use native.Mathlib.Numerals.{add-one}
use native.Mathlib.Omega.{arith}
use lib.ListN.{length, get_or, drop, drop_of_length-le}
use lib.Seq.{drop-cons}
use Rattle.std.specs.List.{list_all}
use Rattle.std.specs.Prelude.{◌&&◌, Option, Some, None, Result, Ok, Err}
use Rattle.letters.specs.Text.{stands, run_end}
use Rattle.letters.proofs.Runs.{run_more, run_stop, run_none, run_bounds}
use Rattle.values.specs.Tests.{pick, both}
use Rattle.letters.specs.Letters.{class_of, is_accepted}
use Rattle.terms.specs.Names.{name_at}
use Rattle.terms.proofs.Within.{NameWithin, name-within}
use Rattle.cards.specs.declared.Fields.{Fields}
use Rattle.cards.specs.declared.Card.{Card}
use Rattle.cards.specs.declared.Card.TheVariants.{Comment, BadName, Statement}
use Rattle.cards.specs.Fields.{all_accepted, is_blank_byte, blank_at, turned, operand_end, next_word, end_of_word, end_of_operand, lone_comma, fields_behind, name_ends, named_card, card_of}

-- A TURN OF EACH READER

-- each byte passes the test
pub accepted_all : (s : List ℕ) → list_all (λ b. is_accepted (class_of b)) s ≡ all_accepted s
unfolding all_accepted
accepted_all [] = refl
accepted_all (b ∷ bs) = step (is_accepted (class_of b)) (accepted_all bs)
  where
    step : (x : Bool) {y z : Bool} → y ≡ z → x && y ≡ both x z
    step true e = e
    step false e = refl

pub accepted_append : (s left : List ℕ) → all_accepted (s ++ left) ≡ both (all_accepted s) (all_accepted left)
unfolding all_accepted
accepted_append [] left = refl
accepted_append (b ∷ bs) left = step (is_accepted (class_of b)) _ _ (accepted_append bs left)
  where
    step : (x u v : Bool) {y : Bool} → y ≡ both u v → both x y ≡ both (both x u) v
    step true u v e = e
    step false u v e = refl

pub accepted-more : (s : List ℕ) (i : ℕ) → i < length s → is_accepted (class_of (get_or s i 0)) ≡ true → all_accepted (drop i s) ≡ all_accepted (drop (i + 1) s)
unfolding all_accepted
accepted-more s i h e = rw (drop-cons s i 0 h, e, add-one)

pub accepted-stop : (s : List ℕ) (i : ℕ) → i < length s → is_accepted (class_of (get_or s i 0)) ≡ false → all_accepted (drop i s) ≡ false
unfolding all_accepted
accepted-stop s i h e = rw (drop-cons s i 0 h, e)

pub accepted-none : (s : List ℕ) (i : ℕ) → length s ≤ i → all_accepted (drop i s) ≡ true
unfolding all_accepted
accepted-none s i h = rw (drop_of_length-le s h)

-- one column fewer is left
less_left : (n i : ℕ) → i < n → n - i ≡ suc (n - (i + 1))
less_left n i h = omega arith

none_left : (n i : ℕ) → n ≤ i → n - i ≡ 0
none_left n i h = omega arith

module _ (s : List ℕ) (i : ℕ) where
  -- a turn of a reader of columns that pass a test
  pub columns-more : (goes : ℕ → Bool) → i < length s → goes (get_or s i 0) ≡ true → run_end goes (length s - i) s i ≡ run_end goes (length s - (i + 1)) s (i + 1)
  columns-more goes h e =
      let less : length s - i - 1 ≡ length s - (i + 1) = omega arith in
      run_more goes (length s - i) s i (omega arith) e ∙ ap (λ n. run_end goes n s (i + 1)) less

  pub columns-stop : (goes : ℕ → Bool) → goes (get_or s i 0) ≡ false → run_end goes (length s - i) s i ≡ i
  columns-stop goes e = run_stop goes (length s - i) s i e

  pub columns-none : (goes : ℕ → Bool) → length s ≤ i → run_end goes (length s - i) s i ≡ i
  columns-none goes h = run_none goes (length s - i) s i (omega arith)

  pub operand-more : (inside : Bool) → i < length s → both (not inside) (blank_at s i) ≡ false
      → operand_end (length s - i) inside s i ≡ operand_end (length s - (i + 1)) (turned inside s i) s (i + 1)
  unfolding operand_end
  operand-more inside h e = rw (less_left (length s) i h, e)

  pub operand-stop : (inside : Bool) → i < length s → both (not inside) (blank_at s i) ≡ true → operand_end (length s - i) inside s i ≡ i
  unfolding operand_end
  operand-stop inside h e = rw (less_left (length s) i h, e)

  pub operand-none : (inside : Bool) → length s ≤ i → operand_end (length s - i) inside s i ≡ i
  unfolding operand_end
  operand-none inside h = rw (none_left (length s) i h)

-- WHERE THE FIELDS LIE

module _ (s : List ℕ) where
  run_within : (goes : ℕ → Bool) (n at : ℕ) → at + n ≤ length s → (at ≤ run_end goes n s at) × (run_end goes n s at ≤ length s)
  run_within goes n at h = let (low, high) = run_bounds goes n s at in (low, omega arith)

  operand-within : (n : ℕ) (inside : Bool) (at : ℕ) → at + n ≤ length s → (at ≤ operand_end n inside s at) × (operand_end n inside s at ≤ length s)
  unfolding operand_end
  operand-within zero inside at h = (omega arith, omega arith)
  operand-within (suc n) inside at h = go (both (not inside) (blank_at s at)) (operand-within n (turned inside s at) (at + 1) (omega arith))
    where
      go : (x : Bool) → (at + 1 ≤ operand_end n (turned inside s at) s (at + 1)) × (operand_end n (turned inside s at) s (at + 1) ≤ length s)
          → (at ≤ pick x at (operand_end n (turned inside s at) s (at + 1))) × (pick x at (operand_end n (turned inside s at) s (at + 1)) ≤ length s)
      go true ih = (omega arith, omega arith)
      go false ih = (omega arith, ih.1)

  -- operation and operand follow each other inside the columns
  pub record Ordered (f : Fields) : Type 0 where
    pub operation : f.operation ≤ f.behind
    pub parted : f.behind ≤ f.operand
    pub operand : f.operand ≤ f.end
    pub end : f.end ≤ length s

  pub fields-ordered : (name : Option ℕ) (at : ℕ) → at ≤ length s → Ordered (fields_behind name s at)
  unfolding fields_behind
  fields-ordered name at h =
      let a = run_within is_blank_byte (length s - at) at (omega arith) in
      let op = next_word s at in
      let b = run_within (λ b. not (is_blank_byte b)) (length s - op) op (omega arith) in
      let behind = end_of_word s op in
      let d = run_within is_blank_byte (length s - behind) behind (omega arith) in
      let from = next_word s behind in
      let e = operand-within (length s - from) false from (omega arith) in
      record {
        operation = b.0;
        parted = d.0;
        operand = (comma (lone_comma s from (end_of_operand s from)) from (end_of_operand s from) e.0).0;
        end = (comma (lone_comma s from (end_of_operand s from)) from (end_of_operand s from) e.0).1 d.1 e.1;
      }
    where
      comma : (x : Bool) (from to : ℕ) → from ≤ to → (from ≤ pick x from to) × (from ≤ length s → to ≤ length s → pick x from to ≤ length s)
      comma true from to h = (omega arith, λ a b. a)
      comma false from to h = (h, λ a b. b)

  -- what is known of a card that was read
  abbrev pub CardWithin : Card → Type 0
  CardWithin Comment = Unit {0}
  CardWithin BadName = Unit {0}
  CardWithin (Statement f) = Ordered f

  pub card-within : CardWithin (card_of s)
  unfolding card_of
  card-within = go (stands "*" s 0) (blank_at s 0)
    where
      named : (n : Result (ℕ × ℕ) ℕ) → NameWithin s 0 n → CardWithin (named_card s n)
      named (Ok (number, next)) w = ends (name_ends s next)
        where
          ends : (x : Bool) → CardWithin (pick x (Statement (fields_behind (Some number) s next)) BadName)
          ends true = fields-ordered (Some number) next w.1
          ends false = tt
      named (Err place) w = tt

      go : (x y : Bool) → CardWithin (pick x Comment (pick y (Statement (fields_behind None s 0)) (named_card s (name_at s 0))))
      go true y = tt
      go false true = fields-ordered None 0 (omega arith)
      go false false = named (name_at s 0) (name-within s 0)
