-- A turn over the cards: the card that was read, and those behind it.
use Prim.Native.Nat.{ℕ, ◌+◌, ◌≤◌}
use mathlib.Core.List.{List, [], ◌∷◌, ◌++◌}
use mathlib.Core.Path.{◌≡◌, refl, sym, ap, ◌∙◌}
use mathlib.Core.Bool.{Bool, true, false}
use lib.ListN.{length, length-append}
use lib.Seq.{sets}
use Rattle.values.proofs.Laws.{both_true, sets_append}
use Rattle.names.specs.declared.Meaning.{Meaning}
use Rattle.book.specs.Writing.{records_bytes}
use Rattle.lines.specs.Lines.{reading_of}
use Rattle.passes.specs.declared.Course.{Course}
use Rattle.passes.specs.Sound.{sound_reading, sound}
use Rattle.passes.specs.Two.{two_no, step_two, check_two, card_pieces, card_records, entry_from}
use Rattle.passes.proofs.Turns.{check-more}
use Rattle.making.specs.declared.Made.{Made}
use Rattle.making.specs.Steps.{entry_or, card_made, made_length, card_record, made_record, laid_if, MadeFits}
use Rattle.making.proofs.Cards.{made_course, made-entry, made-fits, step-most}
use Rattle.making.proofs.Writing.{made_bytes, made-size, records-more}
use Rattle.std.specs.Prelude.{Option, Some, None}
use Rattle.std.specs.Option.{option_or}
use Rattle.values.specs.declared.Relocatable.{Relocatable}

-- the first END counts
first_or : (a b : Option (Option Relocatable)) (rest : Option Relocatable) → entry_or a (entry_or b rest) ≡ entry_or (option_or a b) rest
first_or None b rest = refl
first_or (Some e) b rest = refl

-- the first card of those that are left, and the others
module _ (card : List ℕ) (others : List (List ℕ)) where
  pub sound-on : sound (card ∷ others) ≡ true → (sound_reading (reading_of card) ≡ true) × (sound others ≡ true)
  unfolding sound
  sound-on h = both_true _ _ h

  module _ (look : ℕ → Option Meaning) (k : ℕ) (c : Course) (x : Made) (made : x ≡ card_made look c card) where
    next : x.course ≡ step_two look c card
    next = ap (λ (y : Made). y.course) made ∙ made_course look c card

    -- what the card makes, and what those behind it make
    pub check-on : two_no look c card ≡ 0 → check_two look k c (card ∷ others) ≡ check_two look (k + 1) x.course others
    check-on h = check-more look k c card others h ∙ ap (λ y. check_two look (k + 1) y others) (sym next)

    -- the entry, where END was met before it or at it
    pub entry-on : (e : Option (Option Relocatable)) → entry_or e (entry_from look c (card ∷ others)) ≡ entry_or (option_or e x.entry) (entry_from look x.course others)
    entry-on e = ap (entry_or e) (made-entry look c card others) ∙ rw (next, made) (first_or e (card_made look c card).entry (entry_from look (step_two look c card) others))

    module _ (ok : sound_reading (reading_of card) ≡ true) where
      pub card-fits : MadeFits x card
      card-fits = rw made (made-fits look c card ok)

      pub course_most : x.course.counter ≤ c.counter + 65536
      course_most = rw next (step-most look c card ok)

      records-on : records_bytes (card_records look k c (card ∷ others)) ≡ card_record k c.counter (card_pieces look c card) ++ records_bytes (card_records look (k + 1) x.course others)
      records-on = records-more look k c card others ∙ rw next

      pub length-on : length (records_bytes (card_records look k c (card ∷ others))) ≡ made_length x + length (records_bytes (card_records look (k + 1) x.course others))
      length-on =
          ap length records-on ∙ length-append (card_record k c.counter (card_pieces look c card)) (records_bytes (card_records look (k + 1) x.course others))
          ∙ rw (made-size look c card x made card-fits k)

      -- the card's record laid, and those behind it; or none
      pub laid_on : (writes : Bool) (m p : List ℕ) (to to' : ℕ) → p ≡ sets m to (laid_if writes (made_record k c.counter x card)) → to' ≡ to + made_length x
          → sets m to (laid_if writes (records_bytes (card_records look k c (card ∷ others)))) ≡ sets p to' (laid_if writes (records_bytes (card_records look (k + 1) x.course others)))
      laid_on false m p to to' laid behind = sym laid
      laid_on true m p to to' laid behind =
          let r = card_record k c.counter (card_pieces look c card) in
          let rs = records_bytes (card_records look (k + 1) x.course others) in
          let there : to + length r ≡ to' = ap (λ n. to + n) (made-size look c card x made card-fits k) ∙ sym behind in
          let is : sets m to r ≡ p = ap (sets m to) (made_bytes look c card x made k) ∙ sym laid in
          ap (sets m to) records-on ∙ sets_append m to r rs ∙ ap (λ l. sets l (to + length r) rs) is ∙ ap (λ n. sets p n rs) there

pub entry_done : (look : ℕ → Option Meaning) (c : Course) → entry_from look c [] ≡ None
unfolding entry_from
entry_done look c = refl
