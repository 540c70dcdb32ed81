-- The shapes that a match leaves to one answer.
use Prim.Native.Nat.{ℕ}
use mathlib.Core.Path.{◌≡◌, refl}
use Rattle.std.specs.Prelude.{Result, Ok, Err}
use Rattle.data.specs.declared.Data.{Data as DataSaid}
use Rattle.forms.specs.declared.Shape.{Shape}
use Rattle.forms.specs.declared.Shape.TheVariants.{Nothing, StartAt, Expression, Pair, Target, TwoAddresses, AddressAndCode, LoneAddress, Data}
use Rattle.forms.specs.Shape.{of_data, start_or}

pub no_data : {X : Type 0} (x : Result Shape ℕ) (on : DataSaid → X) (other : X) → ((d : DataSaid) → x ≡ Ok (Data d) → ⊥) → other ≡ of_data x on other
no_data (Err q) on other n = refl
no_data (Ok Nothing) on other n = refl
no_data (Ok (StartAt v)) on other n = refl
no_data (Ok Expression) on other n = refl
no_data (Ok (Pair p)) on other n = refl
no_data (Ok Target) on other n = refl
no_data (Ok (TwoAddresses a b)) on other n = refl
no_data (Ok (AddressAndCode a p)) on other n = refl
no_data (Ok (LoneAddress a)) on other n = refl
no_data (Ok (Data d)) on other n = absurd (n d refl)

pub no_start : (x : Result Shape ℕ) (other : ℕ) → ((v : ℕ) → x ≡ Ok (StartAt v) → ⊥) → other ≡ start_or x other
no_start (Err q) other n = refl
no_start (Ok Nothing) other n = refl
no_start (Ok (StartAt v)) other n = absurd (n v refl)
no_start (Ok Expression) other n = refl
no_start (Ok (Pair p)) other n = refl
no_start (Ok Target) other n = refl
no_start (Ok (TwoAddresses a b)) other n = refl
no_start (Ok (AddressAndCode a p)) other n = refl
no_start (Ok (LoneAddress a)) other n = refl
no_start (Ok (Data d)) other n = refl
