-- The invariant of pass two's loop: where the pass stands before the cards that are left, and what it has laid so far.
use Prim.Native.Nat.{ℕ, ◌+◌, ◌-◌, ◌*◌, ◌≤◌, ◌<◌}
use mathlib.Core.List.{List, [], ◌∷◌}
use mathlib.Core.Path.{◌≡◌, refl, sym, ap, ◌∙◌}
use mathlib.Core.Bool.{Bool, true, false}
use native.Mathlib.Omega.{arith}
use lib.ListN.{length, drop, get_or}
use Rattle.std.proofs.lemmas.List.{drop_more, drop_all}
use lib.Seq.{sets}
use Rattle.values.proofs.Laws.{clash}
use Rattle.names.specs.declared.Meaning.{Meaning}
use Rattle.book.specs.Writing.{records_bytes, header_bytes, book_bytes}
use Rattle.book.proofs.Written.{book-length, book-laid}
use Rattle.lines.specs.Lines.{reading_of}
use Rattle.passes.specs.declared.Course.{Course}
use Rattle.passes.specs.Sound.{sound_reading, sound}
use Rattle.passes.specs.Two.{outset, two_no, check_two, card_records, entry_from, book_from, Checked}
use Rattle.passes.specs.Two.Checked.{clean, bad}
use Rattle.making.specs.declared.Made.{Made}
use Rattle.making.specs.Steps.{entry_or, card_made, made_length, made_record, laid_if, MadeFits}
use Rattle.passes.proofs.Turns.{check-stop, check-end}
use Rattle.making.proofs.Writing.{records-none}
use Rattle.pass_two.proofs.Loops.{sound-on, check-on, entry-on, card-fits, course_most, length-on, laid_on, entry_done}
use Rattle.std.specs.Prelude.{Option, Some, None}
use Rattle.std.specs.Option.{option_or, option_flatten}
use Rattle.values.specs.declared.Relocatable.{Relocatable}

book-long : (look : ℕ → Option Meaning) (ss : List (List ℕ)) → length (book_bytes (book_from look ss)) ≡ 8 + length (records_bytes (card_records look 1 outset ss))
unfolding book_from
book-long look ss = book-length (book_from look ss)

-- a pass that stops does not write
pub stop_off : (writes : Bool) (r : Checked) {number card : ℕ} {X : Type 0} → r ≡ bad number card → (writes ≡ true → (r ≡ clean) × X) → writes ≡ false
stop_off true r e h = let is = (h refl).0 in clash (cc)
stop_off false r e h = refl

-- all the cards of a source, and the output before the first
module _ (cards : List (List ℕ)) (look : ℕ → Option Meaning) (writes : Bool) (out₀ : List ℕ) where
  -- `i` cards are behind, these are left
  pub record Walked (left : List (List ℕ)) (out : List ℕ) (c : Course) (entry : Option (Option Relocatable)) (i to : ℕ) : Type 0 where
    pub low : c.counter ≤ 65536 * i
    pub good : sound left ≡ true
    pub short : to ≤ 8 + 391 * i
    pub same : length out ≡ length out₀
    pub check : check_two look 1 outset cards ≡ check_two look (i + 1) c left
    pub long : 8 + length (records_bytes (card_records look 1 outset cards)) ≡ to + length (records_bytes (card_records look (i + 1) c left))
    pub laid : sets out₀ 8 (laid_if writes (records_bytes (card_records look 1 outset cards))) ≡ sets out to (laid_if writes (records_bytes (card_records look (i + 1) c left)))
    pub found : entry_from look outset cards ≡ entry_or entry (entry_from look c left)

module _ {cards : List (List ℕ)} {look : ℕ → Option Meaning} {writes : Bool} {out₀ : List ℕ} where
  module _ {out : List ℕ} {c : Course} {entry : Option (Option Relocatable)} {i to : ℕ} where
    pub walk_card : {card : List ℕ} → card ≡ get_or cards i [] → i < length cards → Walked cards look writes out₀ (drop i cards) out c entry i to → Walked cards look writes out₀ (card ∷ drop (i + 1) cards) out c entry i to
    walk_card is some w = rw is (rw (drop_more cards i [] some) at w)

    pub walk_end : length cards ≤ i → Walked cards look writes out₀ (drop i cards) out c entry i to → Walked cards look writes out₀ [] out c entry i to
    walk_end none w = rw (drop_all i cards none) at w

    -- a card is read
    module _ {card : List ℕ} {others : List (List ℕ)} (w : Walked cards look writes out₀ (card ∷ others) out c entry i to) where
      pub walk_sound : sound_reading (reading_of card) ≡ true
      walk_sound = (sound-on card others w.good).0

      pub walk_bad : (two_no look c card ≡ 0 → ⊥) → check_two look 1 outset cards ≡ bad (two_no look c card) (i + 1)
      walk_bad h = w.check ∙ check-stop look (i + 1) c card others h

      module _ {x : Made} (made : x ≡ card_made look c card) where
        pub walk_fits : MadeFits x card
        walk_fits = card-fits card others look (i + 1) c x made walk_sound

        -- the book's bytes have room where its record is laid
        pub walk_room : length (book_bytes (book_from look cards)) ≤ length out₀ → to + made_length x ≤ length out
        walk_room room =
            let more = length-on card others look (i + 1) c x made walk_sound in
            let so_far = w.long in
            let same = w.same in
            omega (arith, book-long look cards)

        -- it is let through
        pub walk_on : {p : List ℕ} {e : Option (Option Relocatable)} {to' : ℕ} → two_no look c card ≡ 0
            → p ≡ sets out to (laid_if writes (made_record (i + 1) c.counter x card)) → length p ≡ length out → (to' ≡ to + made_length x) × (to' ≤ to + 391)
            → e ≡ option_or entry x.entry → Walked cards look writes out₀ others p x.course e (i + 1) to'
        walk_on {p = p} {to' = to'} h put kept behind first =
            let most = course_most card others look (i + 1) c x made walk_sound in
            let more = length-on card others look (i + 1) c x made walk_sound in
            let near = behind.1 in
            let there = behind.0 in
            let so_far = w.long in
            let short = w.short in
            let low = w.low in
            record {
              low = omega arith;
              good = (sound-on card others w.good).1;
              short = omega arith;
              same = kept ∙ w.same;
              check = w.check ∙ check-on card others look (i + 1) c x made h;
              long = omega arith;
              laid = w.laid ∙ laid_on card others look (i + 1) c x made walk_sound writes out p to to' put there;
              found = w.found ∙ entry-on card others look (i + 1) c x made entry ∙ ap (λ y. entry_or y (entry_from look x.course others)) (sym first);
            }

    -- nothing is laid where the pass does not write, as one that stops does not
    pub walk_nothing : {left : List (List ℕ)} → Walked cards look writes out₀ left out c entry i to → writes ≡ false → out ≡ sets out₀ 0 (laid_if writes (book_bytes (book_from look cards)))
    walk_nothing w off = let so_far = w.laid in rw off (sym (rw off at so_far))

    -- no card is left
    module _ (w : Walked cards look writes out₀ [] out c entry i to) where
      pub walk_clean : check_two look 1 outset cards ≡ clean
      walk_clean = w.check ∙ check-end look (i + 1) c

      pub walk_size : length (book_bytes (book_from look cards)) ≡ to
      walk_size =
          let so_far = w.long in
          let end = ap length (records-none look (i + 1) c) in
          omega (arith, book-long look cards)

      -- the header has room
      pub walk_long : length (book_bytes (book_from look cards)) ≤ length out₀ → (4 ≤ to) × (8 ≤ length out)
      walk_long room =
          let size = walk_size in
          let all-long = book-long look cards in
          let same = w.same in
          (omega arith, omega arith)

      walk_laid : out ≡ sets out₀ 8 (laid_if writes (records_bytes (card_records look 1 outset cards)))
      walk_laid = sym (w.laid ∙ rw (records-none look (i + 1) c) (none-laid writes))
        where
          none-laid : (b : Bool) → sets out to (laid_if b []) ≡ out
          none-laid true = refl
          none-laid false = refl

      pub walk_header : {q : List ℕ} → writes ≡ true → q ≡ sets out 0 (header_bytes (to - 4) (option_flatten entry)) → q ≡ sets out₀ 0 (laid_if writes (book_bytes (book_from look cards)))
      unfolding book_from
      walk_header {q = q} on put =
          let end = entry_done look c in
          let here : option_flatten entry ≡ entry_from look outset cards = flat entry ∙ ap (entry_or entry) (sym end) ∙ sym w.found in
          let there = walk_laid in
          let size = walk_size in
          rw on
          (book-laid (book_from look cards) out₀ out q to (rw on at there) (omega (arith, book-long look cards)) (put ∙ ap (λ e. sets out 0 (header_bytes (to - 4) e)) here))
        where
          flat : (e : Option (Option Relocatable)) → option_flatten e ≡ entry_or e None
          flat None = refl
          flat (Some e) = refl
