-- What pass two has judged tells what it has found: no refusal and the book's length, or a refusal.
use Prim.Native.Nat.{ℕ}
use mathlib.Core.Path.{◌≡◌, refl, sym, ap, ◌∙◌}
use Rattle.std.specs.Prelude.{Result, Ok, Err}
use Rattle.passes.specs.declared.Refused.{Refused}
use Rattle.passes.specs.Two.{Checked}
use Rattle.passes.specs.Two.Checked.{clean, bad}
use Rattle.pass_two.specs.Code.{judged_as, judged_length}

abbrev checked : Result ℕ Refused → Checked
checked (Ok n) = clean
checked (Err r) = bad r.number r.card

judged-checked : (x : Checked) (n : ℕ) → checked (judged_as x n) ≡ x
judged-checked clean n = refl
judged-checked (bad number card) n = refl

module _ (x : Checked) (n : ℕ) (r : Result ℕ Refused) (is : r ≡ judged_as x n) where
  pub judged-refused : (number card : ℕ) → r ≡ Err (record { number = number; card = card }) → bad number card ≡ x
  judged-refused number card e = ap checked (sym e ∙ is) ∙ judged-checked x n

  pub judged-book : (size : ℕ) → r ≡ Ok size → (clean ≡ x) × (size ≡ n)
  judged-book size e =
      let clean = ap checked (sym e ∙ is) ∙ judged-checked x n in
      (clean, ap judged_length (sym e ∙ is ∙ ap (λ y. judged_as y n) (sym clean)))
