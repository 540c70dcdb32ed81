-- What is known of the name of a line that pass one lets through: its value is at most 65535, its length at most 256.
use Prim.Native.Nat.{ℕ, ◌≤◌}
use mathlib.Core.Path.{◌≡◌, refl}
use mathlib.Core.Bool.{Bool, true, false}
use native.Mathlib.Omega.{arith}
use lib.Dec.{leb}
use borrow.Author.Tests.{leb-true}
use Rattle.values.specs.Tests.{pick}
use Rattle.operations.specs.declared.Operation.{Operation}
use Rattle.operations.specs.declared.traits.Role.{Role}
use Rattle.operations.specs.declared.traits.Role.TheVariants.{Starts, Equates, SetsCounter, Ends, Advances}
use Rattle.operations.proofs.RowLaws.{fixed_small}
use Rattle.data.specs.declared.DataCard.{DataCard}
use Rattle.data.specs.declared.DataCard.TheVariants.{Constant, Reserve}
use Rattle.data.specs.declared.Data.{Data as DataSaid}
use Rattle.data.specs.Sizes.{length_fits, data_no_by, data_no}
use Rattle.data.proofs.Fine.{constant-fine, reserve-fine}
use Rattle.forms.specs.declared.Shape.{Shape}
use Rattle.forms.specs.declared.Shape.TheVariants.{Nothing, StartAt, Expression, Pair, Target, TwoAddresses, AddressAndCode, LoneAddress, Data}
use Rattle.forms.proofs.Laws.{address-size}
use Rattle.passes.specs.Cards.{field_length, name_length_by}
use Rattle.passes.specs.One.{m_fits, amount_over, sizes_no}
use Rattle.std.specs.Prelude.{Result, Ok, Err}

pub amount-low : (n : ℕ) → amount_over n ≡ 0 → n ≤ 65535
amount-low n e = go (leb n 65535) refl e
  where
    go : (b : Bool) → leb n 65535 ≡ b → pick {X = ℕ} b 0 20 ≡ 0 → n ≤ 65535
    go true h e = leb-true n 65535 h
    go false h e = absurd (omega arith)

-- where 21 does not hold, m is in its range
data_fine : (d : DataSaid) → data_no d ≡ 0 → (length_fits d ≡ true) × (d.length ≤ 256)
data_fine d e = go d.card e
  where
    go : (c : DataCard) → data_no_by c d ≡ 0 → (length_fits d ≡ true) × (d.length ≤ 256)
    go Constant e = let f = constant-fine d e in (f.fits, f.short)
    go Reserve e = let f = reserve-fine d e in (f.fits, f.short)

pub sizes-fit : (x : Result Shape ℕ) → sizes_no x ≡ 0 → m_fits x ≡ true
sizes-fit (Err q) e = refl
sizes-fit (Ok Nothing) e = refl
sizes-fit (Ok (StartAt v)) e = refl
sizes-fit (Ok Expression) e = refl
sizes-fit (Ok (Pair p)) e = refl
sizes-fit (Ok Target) e = refl
sizes-fit (Ok (TwoAddresses a b)) e = refl
sizes-fit (Ok (AddressAndCode a p)) e = refl
sizes-fit (Ok (LoneAddress a)) e = refl
sizes-fit (Ok (Data d)) e = (data_fine d e).0

field_short : (op : Operation) (x : Result Shape ℕ) → sizes_no x ≡ 0 → field_length op x ≤ 256
field_short op (Err q) e = omega arith
field_short op (Ok Nothing) e = omega arith
field_short op (Ok (StartAt v)) e = omega arith
field_short op (Ok Expression) e = omega arith
field_short op (Ok (Pair p)) e = omega (arith, fixed_small op)
field_short op (Ok Target) e = omega (arith, fixed_small op)
field_short op (Ok (TwoAddresses a b)) e = omega (arith, fixed_small op, (address-size a.register).1, (address-size b.register).1)
field_short op (Ok (AddressAndCode a p)) e = omega (arith, fixed_small op, (address-size a.register).1)
field_short op (Ok (LoneAddress a)) e = omega (arith, fixed_small op, (address-size a.register).1)
field_short op (Ok (Data d)) e = (data_fine d e).1

pub length-short : (r : Role) (op : Operation) (x : Result Shape ℕ) → sizes_no x ≡ 0 → name_length_by r op x ≤ 256
length-short Starts op x e = omega arith
length-short Equates op x e = omega arith
length-short SetsCounter op x e = omega arith
length-short Ends op x e = omega arith
length-short Advances op x e = field_short op x e
