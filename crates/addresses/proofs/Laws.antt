-- What callers cite of an address: every position in it is one of an expression that ends inside the operand; one that fails does so inside or at the end; which items can be there.
use Prim.{Unit, tt}
use Prim.Native.Nat.{ℕ, ◌+◌, ◌≤◌, ◌<◌}
use mathlib.Core.List.{List}
use mathlib.Core.Bool.{Bool, true, false}
use mathlib.Core.Path.{◌≡◌, refl}
use native.Mathlib.Omega.{arith}
use lib.ListN.{length}
use Rattle.letters.specs.Text.{stands}
use Rattle.values.specs.Tests.{pick}
use Rattle.terms.proofs.Within.{stands-inside}
use Rattle.expressions.specs.Form.{form_of, expression_at}
use Rattle.expressions.proofs.Reading.{Reaches, expression_reaches}
use Rattle.addresses.specs.declared.Address.{Address}
use Rattle.addresses.specs.declared.Allowed.{Allowed}
use Rattle.addresses.specs.declared.Allowed.TheVariants.{MayHaveLength, HasLength, NoLength, OnlyRegister}
use Rattle.addresses.specs.Address.{address, behind, closed, register_at, behind_length, length_at, or_register, items_at, plain, behind_address, address_at}
use Rattle.std.specs.Prelude.{Option, Some, None, Result, Ok, Err}

-- an expression stands at a position, and ends inside the operand
pub record Expressed (o : List ℕ) (p : ℕ) : Type 0 where
  pub end : ℕ
  pub reads : form_of (expression_at o p) ≡ Ok end
  pub starts : p < end
  pub inside : end ≤ length o

abbrev pub ItemIn : List ℕ → Option ℕ → Type 0
ItemIn o None = Unit {0}
ItemIn o (Some p) = Expressed o p

abbrev pub AddressIn : List ℕ → Address → Type 0
AddressIn o a = (Expressed o a.at) × (ItemIn o a.length) × (ItemIn o a.register)

-- ADDRESSES

-- how many lengths an address has
abbrev pub lengths_in : Option ℕ → ℕ
lengths_in None = 0
lengths_in (Some p) = 1

-- .. as its way of writing asks
abbrev pub AsAllowed : Allowed → Option ℕ → Type 0
AsAllowed MayHaveLength l = lengths_in l ≤ 1
AsAllowed HasLength l = lengths_in l ≡ 1
AsAllowed NoLength l = lengths_in l ≡ 0
AsAllowed OnlyRegister l = lengths_in l ≡ 0

-- an address that was read lies inside, and its length is as P says
abbrev pub AddressedIn : (Option ℕ → Type 0) → List ℕ → Result (Address × ℕ) ℕ → Type 0
AddressedIn P o (Ok (a, q)) = (AddressIn o a) × (q ≤ length o) × (P a.length)
AddressedIn P o (Err q) = q ≤ length o

-- what an expression's form says
abbrev pub FormIn : List ℕ → ℕ → Result ℕ ℕ → Type 0
FormIn o p (Ok q) = (Expressed o p) × (q ≤ length o)
FormIn o p (Err q) = q ≤ length o

pub expression_in : (o : List ℕ) (p : ℕ) → p ≤ length o → FormIn o p (form_of (expression_at o p))
expression_in o p h = go (form_of (expression_at o p)) refl (expression_reaches o p)
  where
    go : (f : Result ℕ ℕ) → form_of (expression_at o p) ≡ f → Reaches o p f → FormIn o p f
    go (Ok q) e w = (record { end = q; reads = e; starts = w.0; inside = w.1 }, w.1)
    go (Err q) e w = w.1 h

module _ (P : Option ℕ → Type 0) (o : List ℕ) where
  behind_in : (p : ℕ) → p ≤ length o → (on : ℕ → Result (Address × ℕ) ℕ) → ((q : ℕ) → Expressed o p → q ≤ length o → AddressedIn P o (on q))
      → AddressedIn P o (behind (form_of (expression_at o p)) on)
  behind_in p h on i = go (form_of (expression_at o p)) (expression_in o p h)
    where
      go : (f : Result ℕ ℕ) → FormIn o p f → AddressedIn P o (behind f on)
      go (Ok q) w = i q w.0 w.1
      go (Err q) w = w

  closed_in : (q : ℕ) (a : Address) → q ≤ length o → AddressIn o a → P a.length → AddressedIn P o (closed o q a)
  unfolding closed
  closed_in q a h i k = go (stands ")" o q) refl
    where
      go : (b : Bool) → stands ")" o q ≡ b → AddressedIn P o (pick b (Ok (a, (q + 1))) (Err q))
      go true e = (i, omega (arith, stands-inside 41 o q (omega arith) e), k)
      go false e = h

  module _ (at : ℕ) (x : Expressed o at) where
    register_in : (l : Option ℕ) (p : ℕ) → ItemIn o l → P l → p ≤ length o → AddressedIn P o (register_at o at l p)
    unfolding register_at
    register_in l p i k h = behind_in p h (λ q. closed o q (address at l (Some p))) (λ q e m. closed_in q (address at l (Some p)) m (x, i, e) k)

    length_in : ((p : ℕ) → P (Some p)) → (p : ℕ) → p ≤ length o → AddressedIn P o (length_at o at p)
    unfolding length_at behind_length
    length_in k p h = behind_in p h (λ q. behind_length o at p q) (λ q e m. go q e m (stands "," o q) refl)
      where
        go : (q : ℕ) → Expressed o p → q ≤ length o → (b : Bool) → stands "," o q ≡ b
            → AddressedIn P o (pick b (register_at o at (Some p) (q + 1)) (closed o q (address at (Some p) None)))
        go q e m true c = register_in (Some p) (q + 1) e (k p) (omega (arith, stands-inside 44 o q (omega arith) c))
        go q e m false c = closed_in q (address at (Some p) None) m (x, e, tt) (k p)

    or_register_in : P None → (p : ℕ) (other : Result (Address × ℕ) ℕ) → AddressedIn P o other → AddressedIn P o (or_register o at p other)
    unfolding or_register
    or_register_in k p other i = go (stands "," o p) refl
      where
        go : (b : Bool) → stands "," o p ≡ b → AddressedIn P o (pick b (register_at o at None (p + 1)) other)
        go true c = register_in None (p + 1) tt k (omega (arith, stands-inside 44 o p (omega arith) c))
        go false c = i

module _ (o : List ℕ) (at : ℕ) (x : Expressed o at) where
  items_in : (w : Allowed) (p : ℕ) → p ≤ length o → AddressedIn (AsAllowed w) o (items_at w o at p)
  items_in MayHaveLength p h =
      or_register_in (AsAllowed MayHaveLength) o at x (omega arith) p (length_at o at p)
      (length_in (AsAllowed MayHaveLength) o at x (λ q. omega arith) p h)
  items_in HasLength p h = length_in (AsAllowed HasLength) o at x (λ q. refl) p h
  items_in NoLength p h = or_register_in (AsAllowed NoLength) o at x refl p (Err p) h
  items_in OnlyRegister p h =
      or_register_in (AsAllowed OnlyRegister) o at x refl p (register_at o at None p)
      (register_in (AsAllowed OnlyRegister) o at x None p tt refl h)

  plain_in : (w : Allowed) (q : ℕ) → q ≤ length o → AddressedIn (AsAllowed w) o (plain w at q)
  plain_in MayHaveLength q h = ((x, tt, tt), h, omega arith)
  plain_in HasLength q h = h
  plain_in NoLength q h = ((x, tt, tt), h, refl)
  plain_in OnlyRegister q h = ((x, tt, tt), h, refl)

  behind-address_in : (w : Allowed) (q : ℕ) → q ≤ length o → AddressedIn (AsAllowed w) o (behind_address w o at q)
  unfolding behind_address
  behind-address_in w q h = go (stands "(" o q) refl
    where
      go : (b : Bool) → stands "(" o q ≡ b → AddressedIn (AsAllowed w) o (pick b (items_at w o at (q + 1)) (plain w at q))
      go true c = items_in w (q + 1) (omega (arith, stands-inside 40 o q (omega arith) c))
      go false c = plain_in w q h

pub address_in : (w : Allowed) (o : List ℕ) (at : ℕ) → at ≤ length o → AddressedIn (AsAllowed w) o (address_at w o at)
unfolding address_at
address_in w o at h = behind_in (AsAllowed w) o at h (λ q. behind_address w o at q) (λ q e k. behind-address_in o at e w q k)
