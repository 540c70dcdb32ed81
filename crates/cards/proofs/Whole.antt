-- What is known of a source that refusals 1 and 2 let through: whole cards, at most 4,000, each with its statement columns inside.
use Prim.Native.Nat.{ℕ, zero, suc, ◌+◌, ◌-◌, ◌*◌, ◌/◌, ◌%◌, ◌≤◌, ◌<◌}
use mathlib.Core.List.{List, []}
use mathlib.Core.Path.{◌≡◌, refl, ap, ◌∙◌}
use mathlib.Core.Bool.{Bool, true, false}
use native.Mathlib.Nat.{not-suc-le-zero, mul-suc, mul-le-mul_right}
use native.Mathlib.Omega.{arith}
use borrow.Author.Tests.{eqb-true, leb-true}
use lib.Dec.{eqb, leb}
use lib.ListN.{length, get_or}
use Rattle.values.specs.Tests.{pick, either}
use Rattle.values.specs.Words.{part}
use Rattle.cards.specs.Source.{columns_of, whole_no, source_no, cards_from, cards_of}

pub record Whole (width size : ℕ) : Type 0 where
  pub some : 80 ≤ width
  pub most : width ≤ 96
  pub columns : columns_of width ≤ width
  pub cards : width * (size / width) ≡ size
  pub few : size / width ≤ 4000

whole-zero : (rest count : ℕ) → whole_no rest count ≡ 0 → (rest ≡ 0) × (count ≤ 4000)
whole-zero rest count e = go (eqb rest 0) refl (leb count 4000) refl e
  where
    go : (x : Bool) → eqb rest 0 ≡ x → (y : Bool) → leb count 4000 ≡ y → pick {X = ℕ} x (pick y 0 2) 1 ≡ 0 → (rest ≡ 0) × (count ≤ 4000)
    go true f true g e = (eqb-true rest 0 f, leb-true count 4000 g)
    go true f false g e = absurd (omega arith)
    go false f y g e = absurd (omega arith)

pub source_whole : (width size : ℕ) → source_no width size ≡ 0 → Whole width size
unfolding source_no columns_of
source_whole width size e = go (eqb width 80) refl (eqb width 96) refl e
  where
    go : (x : Bool) → eqb width 80 ≡ x → (y : Bool) → eqb width 96 ≡ y → pick {X = ℕ} (either x y) (whole_no (size % width) (size / width)) 1 ≡ 0 → Whole width size
    go true f y g e =
        let w = eqb-true width 80 f in
        let z = whole-zero (size % 80) (size / 80) (rw w at e) in
        rw w (record { some = omega arith; most = omega arith; columns = omega arith; cards = omega arith; few = z.1 })
    go false f true g e =
        let w = eqb-true width 96 g in
        let z = whole-zero (size % 96) (size / 96) (rw w at e) in
        rw w (record { some = omega arith; most = omega arith; columns = omega arith; cards = omega arith; few = z.1 })
    go false f false g e = absurd (omega arith)

-- the width can be divided by
pub source_wide : (width size : ℕ) → source_no width size ≡ 0 → 0 < width
source_wide width size e = let some = (source_whole width size e).some in omega arith

-- a turn over the cards: `left` of them from a place on fill the source
pub card-inside : (width size at left : ℕ) → source_no width size ≡ 0 → at + width * left ≡ size → 0 < left
    → (at + columns_of width ≤ size) × (at + width + width * (left - 1) ≡ size)
card-inside width size at left e h l =
    let w = (source_whole width size e).columns in
    let m : width * left ≡ width * (left - 1) + width = let n : left ≡ suc (left - 1) = omega arith in ap (λ i. width * i) n ∙ mul-suc width (left - 1) in
    (omega arith, omega arith)

-- THE CARDS AS A LIST

cards_count : (n width : ℕ) (s : List ℕ) (at : ℕ) → length (cards_from n width s at) ≡ n
unfolding cards_from
cards_count zero width s at = refl
cards_count (suc n) width s at = ap suc (cards_count n width s (at + width))

cards_nth : (n width : ℕ) (s : List ℕ) (at i : ℕ) → i < n → get_or (cards_from n width s at) i [] ≡ part s (at + i * width) (columns_of width)
unfolding cards_from
cards_nth zero width s at i h = absurd (not-suc-le-zero h)
cards_nth (suc n) width s at zero h = let e : at + 0 * width ≡ at = omega arith in rw e
cards_nth (suc n) width s at (suc i) h =
    let e : at + suc i * width ≡ at + width + i * width = omega arith in rw e (cards_nth n width s (at + width) i (omega arith))

module _ (width : ℕ) (s : List ℕ) where
  -- as many as whole widths
  pub cards_length : length (cards_of width s) ≡ length s / width
  unfolding cards_of
  cards_length = cards_count (length s / width) width s 0

  -- the card of a number lies that many widths on
  pub cards_at : (i : ℕ) → i < length (cards_of width s) → get_or (cards_of width s) i [] ≡ part s (i * width) (columns_of width)
  unfolding cards_of
  cards_at i h = let e : 0 + i * width ≡ i * width = omega arith in cards_nth (length s / width) width s 0 i (rw cards_length at h) ∙ rw e

  -- .. with its statement columns inside the source
  pub card_in : (i : ℕ) → source_no width (length s) ≡ 0 → i < length (cards_of width s) → i * width + columns_of width ≤ length s
  card_in i e h =
      let w = source_whole width (length s) e in
      let wide = w.columns in
      let all = w.cards in
      let next : i + 1 ≤ length s / width = omega (arith, cards_length) in
      let most : (i + 1) * width ≤ length s / width * width = mul-le-mul_right width next in
      omega arith
