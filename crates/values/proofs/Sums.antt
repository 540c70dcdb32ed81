-- What the sum of a relocatable value and a displacement says.
use Prim.Native.Nat.{◌+◌, ◌≤◌, ◌<◌}
use mathlib.Core.Path.{◌≡◌, refl, ap}
use mathlib.Core.Bool.{Bool, true, false}
use lib.Dec.{leb}
use borrow.Author.Tests.{leb-true, leb-false}
use Rattle.values.specs.Tests.{pick}
use Rattle.values.specs.Values.{moved_by}
use Rattle.values.specs.declared.Displacement.{Displacement}
use Rattle.values.specs.declared.Relocatable.{Relocatable}
use Rattle.values.proofs.Laws.{clash}
use Rattle.std.specs.Prelude.{Option, Some, None}

pub moved-over : (d : Displacement) (v : Relocatable) → ◌≡◌ {A = Option Relocatable} None (moved_by d v) → 65535 < v.0 + d.0
unfolding moved_by
moved-over d v e = go (leb (v.0 + d.0) 65535) refl e
  where
    go : (b : Bool) → leb (v.0 + d.0) 65535 ≡ b → ◌≡◌ {A = Option Relocatable} None (pick b (Some (record { 0 = v.0 + d.0 })) None) → 65535 < v.0 + d.0
    go true h k = clash (cc)
    go false h k = leb-false (v.0 + d.0) 65535 h

pub moved_to : (d : Displacement) (v w : Relocatable) → Some w ≡ moved_by d v → (w.0 ≡ v.0 + d.0) × (v.0 + d.0 ≤ 65535)
unfolding moved_by
moved_to d v w e = go (leb (v.0 + d.0) 65535) refl e
  where
    go : (b : Bool) → leb (v.0 + d.0) 65535 ≡ b → ◌≡◌ {A = Option Relocatable} (Some w) (pick b (Some (record { 0 = v.0 + d.0 })) None) → (w.0 ≡ v.0 + d.0) × (v.0 + d.0 ≤ 65535)
    go true h k =
        let same : ◌≡◌ {A = Relocatable} w (record { 0 = v.0 + d.0 }) = cc in
        (ap (λ (x : Relocatable). x.0) same, leb-true (v.0 + d.0) 65535 h)
    go false h k = clash (cc)
