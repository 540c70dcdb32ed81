-- No statement where a byte or an operand is not there.
use Prim.Native.Nat.{ℕ}
use mathlib.Core.Path.{◌≡◌, refl}
use Rattle.std.specs.Prelude.{Option, Some, None, Result, Ok, Err}
use Rattle.values.specs.declared.refusals.Refusal.{Refusal}
use Rattle.places.specs.declared.Operand.{Operand}
use Rattle.statements.specs.declared.Statement.{Statement}
use Rattle.statements.specs.Statements.{with_code, with_operand}

pub no_byte : (x : Result (Option ℕ) Refusal) (f : ℕ → Statement) → ((b : ℕ) → x ≡ Ok (Some b) → ⊥) → Statement.NoBytes ≡ with_code x f
no_byte (Ok (Some b)) f n = absurd (n b refl)
no_byte (Ok None) f n = refl
no_byte (Err r) f n = refl

pub no_operand : (x : Result (Option Operand) Refusal) (f : Operand → Statement) → ((a : Operand) → x ≡ Ok (Some a) → ⊥) → Statement.NoBytes ≡ with_operand x f
no_operand (Ok (Some a)) f n = absurd (n a refl)
no_operand (Ok None) f n = refl
no_operand (Err r) f n = refl
