-- The records that are left, at a turn, at the end, and from the first on.
use Prim.Native.Nat.{ℕ, zero, suc, ◌+◌, ◌≤◌}
use mathlib.Core.List.{List, [], ◌∷◌}
use mathlib.Core.Path.{◌≡◌, refl, sym, ap, ◌∙◌}
use mathlib.Core.Bool.{Bool, true, false}
use native.Mathlib.Omega.{arith}
use lib.ListN.{length}
use lib.Dec.{eqb}
use borrow.Author.Tests.{ne_eqb}
use Rattle.std.specs.Prelude.{Option, Some, None, Result, Ok, Err}
use Rattle.std.specs.Result.{result_ok}
use Rattle.values.specs.Tests.{pick}
use Rattle.values.specs.declared.Relocatable.{Relocatable}
use Rattle.values.proofs.Laws.{clash}
use Rattle.book.specs.Book.{Record, records_from, onto, record_at, record_ok, next_at, card_at}
use Rattle.book.specs.Reading.{step_at, found, broken, record_there, layout_of, records_in}
use Rattle.book.specs.Records.{records_up_to}
use Rattle.book.specs.declared.Broken.{Broken}
use Rattle.book.specs.declared.Cursor.{Cursor}
use Rattle.book.specs.declared.Place.{Place}
use Rattle.book.proofs.Laws.{no_head}
use Rattle.book.proofs.Turns.{step-is_record, step-is-end, step-is_broken, records-are}

-- what an answer is, where it is taken for an option
pub ok_is : (x : Result (Option (Place × Cursor)) Broken) (o : Option (Place × Cursor)) → Some o ≡ result_ok x → x ≡ Ok o
ok_is (Ok y) o e = cc
ok_is (Err _) o e = clash (cc)

module _ (s : List ℕ) where
  -- nothing is left behind the end
  past : (f at last : ℕ) → length s ≤ at → records_up_to f s at last ≡ []
  unfolding records_up_to
  past zero at last h = refl
  past (suc f) at last h = go (eqb at (length s)) refl
    where
      go : (b : Bool) → eqb at (length s) ≡ b
          → pick b [] (pick (record_ok s at last) (record_at s at ∷ records_up_to f s (next_at s at) (card_at s at)) []) ≡ []
      go true e = refl
      go false e = rw (no_head s at last (omega arith))

  -- a bound that is large enough is as good as another
  enough : (f g at last : ℕ) → length s ≤ f + at → length s ≤ g + at → records_up_to f s at last ≡ records_up_to g s at last
  unfolding records_up_to
  enough zero g at last h k = sym (past g at last (omega arith))
  enough (suc f) zero at last h k = past (suc f) at last (omega arith)
  enough (suc f) (suc g) at last h k =
      let same = enough f g (next_at s at) (card_at s at) (omega arith) (omega arith) in
      ap (λ rs. pick (eqb at (length s)) [] (pick (record_ok s at last) (record_at s at ∷ rs) [])) same

  module _ (at last : ℕ) where
    turn_found : (f : ℕ) (p : Place) (c : Cursor) → found p c ≡ step_at s at last → records_up_to (suc f) s at last ≡ record_there s p ∷ records_up_to f s c.at c.card
    unfolding records_up_to
    turn_found f p c e =
        let (n, ok, is-p, is_c) = step-is_record s at last p c e in
        rw (ne_eqb _ _ n, ok, is-p, is_c)

    turn_broken : (f : ℕ) → Err broken ≡ step_at s at last → records_up_to f s at last ≡ []
    unfolding records_up_to
    turn_broken zero e = refl
    turn_broken (suc f) e = let (n, bad) = step-is_broken s at last e in rw (ne_eqb _ _ n, bad)

    -- the reader gives a record: it is the first of those left
    pub left_found : (p : Place) (c : Cursor) → found p c ≡ step_at s at last
        → records_up_to (length s) s at last ≡ record_there s p ∷ records_up_to (length s) s c.at c.card
    left_found p c e = enough (length s) (suc (length s)) at last (omega arith) (omega arith) ∙ turn_found (length s) p c e

    -- the reader gives none: it is the end, or a broken record
    pub left_none : (x : Result (Option (Place × Cursor)) Broken) → x ≡ step_at s at last → ((p : Place) (c : Cursor) → x ≡ found p c → ⊥) → records_up_to (length s) s at last ≡ []
    left_none (Ok (Some (p, c))) e n = absurd (n p c refl)
    left_none (Ok None) e n = let there = step-is-end s at last e in past (length s) at last (omega arith)
    left_none (Err _) e n = turn_broken (length s) e

  -- where all records are in order, they are those of the book
  up_to_is : (f at last : ℕ) (rs : List Record) → records_from f s at last ≡ Some rs → records_up_to f s at last ≡ rs
  unfolding records_up_to records_from
  up_to_is zero at last rs h = clash (cc)
  up_to_is (suc f) at last rs h =
      go (eqb at (length s)) (record_ok s at last) (records_from f s (next_at s at) (card_at s at)) (up_to_is f (next_at s at) (card_at s at)) h
    where
      go : (a b : Bool) (o : Option (List Record)) → ((qs : List Record) → o ≡ Some qs → records_up_to f s (next_at s at) (card_at s at) ≡ qs)
          → pick a (Some []) (pick b (onto (record_at s at) o) None) ≡ Some rs
          → pick a [] (pick b (record_at s at ∷ records_up_to f s (next_at s at) (card_at s at)) []) ≡ rs
      go true b o ih q = cc
      go false true None ih q = clash (cc)
      go false true (Some qs) ih q = let same = ih qs refl in cc
      go false false o ih q = clash (cc)

  pub all_left : (e : Option Relocatable) → Ok e ≡ layout_of s → records_up_to (length s) s 8 0 ≡ records_in s
  all_left e q = up_to_is (length s) 8 0 (records_in s) (records-are s e q)
