-- A DC's operand gives the Data of a DC, a DS's that of a DS.
use Prim.{Unit, tt}
use Prim.Native.Nat.{ℕ}
use mathlib.Core.List.{List}
use mathlib.Core.Bool.{Bool, true, false}
use mathlib.Core.Path.{◌≡◌, refl}
use lib.ListN.{length}
use lib.Dec.{eqb}
use Rattle.values.specs.Tests.{pick}
use Rattle.data.specs.declared.DataCard.{DataCard}
use Rattle.data.specs.declared.DataCard.TheVariants.{Constant, Reserve}
use Rattle.data.specs.declared.head.Head.{Head}
use Rattle.data.specs.Form.{head_at, value_at, constant_data, reserve_data, constant_up_to, constant_behind, constant_of, constant_form, reserve_of, reserve_form}
use Rattle.std.specs.Prelude.{Result, Ok, Err}
use Rattle.data.specs.declared.Data.{Data}

-- an operand that was read is one of this card
abbrev pub OnCard : DataCard → Result Data ℕ → Type 0
OnCard k (Ok d) = d.card ≡ k
OnCard k (Err q) = Unit {0}

pub constant-card : (s : List ℕ) → OnCard Constant (constant_form s)
unfolding constant_form constant_behind
constant-card s = go (head_at s)
  where
    picked : (h : Head) (count end : ℕ) (b : Bool) → OnCard Constant (pick b (Ok (constant_data h count)) (Err end))
    picked h count end true = refl
    picked h count end false = tt

    up_to : (h : Head) (x : Result (ℕ × ℕ) ℕ) → OnCard Constant (constant_up_to s h x)
    up_to h (Ok (count, end)) = picked h count end (eqb end (length s))
    up_to h (Err at) = tt

    go : (x : Result Head ℕ) → OnCard Constant (constant_of s x)
    go (Ok h) = up_to h (value_at s h.kind h.next)
    go (Err at) = tt

pub reserve-card : (s : List ℕ) → OnCard Reserve (reserve_form s)
unfolding reserve_form
reserve-card s = go (head_at s)
  where
    picked : (h : Head) (b : Bool) → OnCard Reserve (pick b (Ok (reserve_data h)) (Err h.next))
    picked h true = refl
    picked h false = tt

    go : (x : Result Head ℕ) → OnCard Reserve (reserve_of s x)
    go (Ok h) = picked h (eqb h.next (length s))
    go (Err at) = tt
