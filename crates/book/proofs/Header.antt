-- Laws on a book's header: one for each test that fails, and two for all that pass.
use Prim.Native.Nat.{ℕ, ◌+◌, ◌≤◌, ◌<◌}
use mathlib.Core.List.{List}
use mathlib.Core.Path.{◌≡◌}
use lib.ListN.{length, get_or}
use borrow.Author.Tests.{le-leb, lt-leb, eq-eqb, ne_eqb}
use Rattle.std.specs.Prelude.{Some, None, Ok, Err}
use Rattle.values.specs.Words.{word, long}
use Rattle.values.proofs.Laws.{both_false}
use Rattle.book.specs.Book.{header_ok, entry_at}
use Rattle.book.specs.Reading.{header_of, broken}

module _ (s : List ℕ) where
  pub too_short : length s < 8 → (Err broken) ≡ header_of s
  unfolding header_ok
  too_short h = rw (lt-leb _ _ h)

  pub bad-length : (long s 0 + 4 ≡ length s → ⊥) → (Err broken) ≡ header_of s
  unfolding header_ok
  bad-length h = simp (ne_eqb _ _ h, both_false)

  pub bad_version : (get_or s 4 0 ≡ 1 → ⊥) → (Err broken) ≡ header_of s
  unfolding header_ok
  bad_version h = simp (ne_eqb _ _ h, both_false)

  pub bad_flag : 1 < get_or s 5 0 → (Err broken) ≡ header_of s
  unfolding header_ok
  bad_flag h = simp (lt-leb _ _ h, both_false)

  pub bad-entry : get_or s 5 0 ≡ 0 → (word s 6 ≡ 0 → ⊥) → (Err broken) ≡ header_of s
  unfolding header_ok
  bad-entry f h = simp (eq-eqb (get_or s 5 0) 0 f, ne_eqb _ _ h, both_false)

  module _ (long_enough : 8 ≤ length s) (right-length : long s 0 + 4 ≡ length s) (version : get_or s 4 0 ≡ 1) (flag : get_or s 5 0 ≤ 1) where
    pub no_entry : get_or s 5 0 ≡ 0 → word s 6 ≡ 0 → (Ok None) ≡ header_of s
    unfolding header_ok entry_at
    no_entry f e =
        simp (le-leb _ _ long_enough, eq-eqb _ _ right-length, eq-eqb _ _ version, le-leb _ _ flag, eq-eqb (get_or s 5 0) 0 f, eq-eqb (word s 6) 0 e)

    pub an_entry : (get_or s 5 0 ≡ 0 → ⊥) → (Ok (Some (record { 0 = word s 6 }))) ≡ header_of s
    unfolding header_ok entry_at
    an_entry f =
        simp (le-leb _ _ long_enough, eq-eqb _ _ right-length, eq-eqb _ _ version, le-leb _ _ flag, ne_eqb (get_or s 5 0) 0 f)
