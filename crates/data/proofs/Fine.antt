-- What is known of the sizes of a card that refusal 21 lets through.
use Prim.Native.Nat.{ℕ, ◌*◌, ◌≤◌, ◌<◌}
use mathlib.Core.Path.{◌≡◌, refl}
use mathlib.Core.Bool.{Bool, true, false}
use native.Mathlib.Nat.{mul-le-mul}
use native.Mathlib.Omega.{arith}
use borrow.Author.Tests.{ltb-false, leb-true}
use lib.Dec.{ltb, leb}
use Rattle.values.proofs.Laws.{clash}
use Rattle.values.specs.Tests.{pick, both}
use Rattle.data.specs.declared.DataType.{DataType}
use Rattle.data.specs.declared.DataType.TheVariants.{Characters, Hexadecimal, Decimal, Address}
use Rattle.data.specs.declared.Data.{Data}
use Rattle.data.specs.Sizes.{bytes_needed, longest, length_fits, data_size, constant_no, reserve_no}

longest-most : (k : DataType) → longest k ≤ 256
longest-most Characters = omega arith
longest-most Hexadecimal = omega arith
longest-most Decimal = omega arith
longest-most Address = omega arith

-- R8.5: m is 1 to 256
pub fits-length : (d : Data) → length_fits d ≡ true → (1 ≤ d.length) × (d.length ≤ longest d.kind) × (d.length ≤ 256)
unfolding length_fits
fits-length d e = go (leb 1 d.length) refl (leb d.length (longest d.kind)) refl e
  where
    go : (x : Bool) → leb 1 d.length ≡ x → (y : Bool) → leb d.length (longest d.kind) ≡ y → both x y ≡ true
        → (1 ≤ d.length) × (d.length ≤ longest d.kind) × (d.length ≤ 256)
    go true f true g e =
        let l = leb-true d.length (longest d.kind) g in
        (leb-true 1 d.length f, l, omega (arith, longest-most d.kind))
    go true f false g e = clash (cc)
    go false f y g e = clash (cc)

-- what is known of a DC card that is not refused
pub record Constant (d : Data) : Type 0 where
  pub fits : length_fits d ≡ true
  pub some : 1 ≤ d.length
  pub short : d.length ≤ 256
  pub few : d.copies ≤ 256
  pub room : bytes_needed d ≤ d.length
  pub size : data_size d ≤ 256

pub constant-fine : (d : Data) → constant_no d ≡ 0 → Constant d
unfolding constant_no
constant-fine d e = go (length_fits d) refl (ltb 256 d.copies) refl (ltb d.length (bytes_needed d)) refl (ltb 256 (data_size d)) refl e
  where
    go : (x : Bool) → length_fits d ≡ x → (y : Bool) → ltb 256 d.copies ≡ y → (z : Bool) → ltb d.length (bytes_needed d) ≡ z
        → (w : Bool) → ltb 256 (data_size d) ≡ w → pick {X = ℕ} x (pick y 21 (pick z 21 (pick w 21 0))) 21 ≡ 0 → Constant d
    go true f false g false h false i e =
        let l = fits-length d f in
        record {
          fits = f;
          some = l.0;
          short = l.2;
          few = ltb-false 256 d.copies g;
          room = ltb-false d.length (bytes_needed d) h;
          size = ltb-false 256 (data_size d) i;
        }
    go false f y g z h w i e = absurd (omega arith)
    go true f true g z h w i e = absurd (omega arith)
    go true f false g true h w i e = absurd (omega arith)
    go true f false g false h true i e = absurd (omega arith)

-- what is known of a DS card that is not refused
pub record Reserve (d : Data) : Type 0 where
  pub fits : length_fits d ≡ true
  pub some : 1 ≤ d.length
  pub short : d.length ≤ 256
  pub few : d.copies ≤ 65535
  pub size : data_size d ≤ 16776960

pub reserve-fine : (d : Data) → reserve_no d ≡ 0 → Reserve d
unfolding reserve_no data_size
reserve-fine d e = go (length_fits d) refl (ltb 65535 d.copies) refl e
  where
    go : (x : Bool) → length_fits d ≡ x → (y : Bool) → ltb 65535 d.copies ≡ y → pick {X = ℕ} x (pick y 21 0) 21 ≡ 0 → Reserve d
    go true f false g e =
        let l = fits-length d f in
        let n = ltb-false 65535 d.copies g in
        let m : d.copies * d.length ≤ 65535 * 256 = mul-le-mul {n₁ = d.copies} {m₁ = d.length} {n₂ = 65535} {m₂ = 256} n l.2 in
        record { fits = f; some = l.0; short = l.2; few = n; size = omega arith }
    go false f y g e = absurd (omega arith)
    go true f true g e = absurd (omega arith)

-- two numbers of 32 bits have a product of 64
pub size_fits : (a b : ℕ) → a < 4294967296 → b < 4294967296 → a * b ≤ 18446744065119617025
size_fits a b h k =
    let m : a * b ≤ 4294967295 * 4294967295 = mul-le-mul {n₁ = a} {m₁ = b} {n₂ = 4294967295} {m₂ = 4294967295} (omega arith) (omega arith) in
    omega arith
