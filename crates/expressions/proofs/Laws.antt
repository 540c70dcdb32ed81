-- What callers cite of expressions: where they end, when they are refused, how large a value is.
use Rattle.std.specs.Prelude.{Option, Result, Ok, Err}
use Prim.Native.Nat.{ℕ, ◌+◌, ◌-◌, ◌%◌, ◌<◌}
use mathlib.Core.List.{List, map}
use mathlib.Core.Bool.{Bool, true, false}
use mathlib.Core.Path.{◌≡◌, refl}
use native.Mathlib.Omega.{arith}
use lib.Dec.{ltb, eqb}
use borrow.Author.Tests.{ltb-false}
use Rattle.values.specs.Tests.{pick, either}
use Rattle.values.specs.declared.Value.{Value}
use Rattle.values.specs.declared.Wanted.{Wanted}
use Rattle.values.specs.declared.Wanted.TheVariants.{OnlyAbsolute, OnlyRelocatable}
use Rattle.values.specs.Values.{amount_of, with_value}
use Rattle.values.proofs.Laws.{clash}
use Rattle.names.specs.declared.Meaning.{Meaning}
use Rattle.expressions.specs.declared.Kind.{Kind}
use Rattle.expressions.specs.Form.{Placed, Addend, Read, form_of}
use Rattle.expressions.specs.Form.Read.{up_to, fails}
use Rattle.expressions.specs.Value.{addend_factors, Sum, sum_of, absolute_of, relocatable_of, value_of, evaluated, suits, kind_of, refusal_for, value_in}
use Rattle.expressions.specs.declared.Fault.{Fault}
use Rattle.expressions.specs.declared.Fault.TheVariants.{Malformed, Undefined, WrongKind, OutOfRange}

-- an expression that ends is never refused for its form
pub formed : (look : ℕ → Option Meaning) (here : ℕ) (e : Read (List (Addend Placed))) (q : ℕ) → form_of e ≡ Ok q → (w : Wanted) → refusal_for w (evaluated look here e) ≡ 15 → ⊥
unfolding evaluated value_of
formed look here (up_to xs q) r h w e = go (sum_of (map (addend_factors look here) xs)) e
  where
    none : (b : Bool) (m n : ℕ) → 15 < m → n < 15 → pick b n m ≡ 15 → ⊥
    none true m n l k e = omega arith
    none false m n l k e = omega arith

    two : (b : Bool) → pick {X = ℕ} b 20 19 ≡ 15 → ⊥
    two true e = omega arith
    two false e = omega arith

    one : (b : Bool) (v : Value) (k : Kind) → refusal_for w (pick b (Err (OutOfRange k)) (Ok v)) ≡ 15 → ⊥
    one true v k e = two (suits w k) e
    one false v k e = none (suits w (kind_of v)) 19 0 (omega arith) (omega arith) e

    go : (s : Sum) → refusal_for w (value_of s) ≡ 15 → ⊥
    go s e = at s.undefined s.mixed (eqb s.after_plus s.after_minus) (eqb s.after_plus (s.after_minus + 1)) e
      where
        at : (a b c d : Bool) → refusal_for w (pick a (Err Undefined) (pick b (Err WrongKind) (pick c (absolute_of s) (pick d (relocatable_of s) (Err WrongKind))))) ≡ 15 → ⊥
        at true b c d e = omega arith
        at false true c d e = omega arith
        at false false true d e =
            one (either s.out (either (ltb (s.added + 65536) s.subtracted) (ltb (s.subtracted + 65535) s.added))) (Value.Absolute (record { 0 = (s.added + 65536 - s.subtracted) % 65536 })) Kind.Absolute e
        at false false false true e =
            one (either s.out (either (ltb s.added s.subtracted) (ltb (s.subtracted + 65535) s.added))) (Value.Relocatable (record { 0 = s.added - s.subtracted })) Kind.Relocatable e
        at false false false false e = omega arith
formed look here (fails q) r h w e = clash (cc)

-- an expression that is not refused has a value of a kind that suits
pub record Accepted (w : Wanted) (e : Result Value Fault) : Type 0 where
  pub value : Value
  pub good : e ≡ Ok value
  pub kind : suits w (kind_of value) ≡ true

pub accepted : (w : Wanted) (e : Result Value Fault) → refusal_for w e ≡ 0 → Accepted w e
accepted w (Ok v) h = record { value = v; good = refl; kind = go (suits w (kind_of v)) h }
  where
    go : (b : Bool) → pick {X = ℕ} b 0 19 ≡ 0 → b ≡ true
    go true e = refl
    go false e = absurd (omega arith)
accepted w (Err Malformed) h = absurd (omega arith)
accepted w (Err Undefined) h = absurd (omega arith)
accepted w (Err WrongKind) h = absurd (omega arith)
accepted w (Err (OutOfRange k)) h = absurd (go (suits w k) h)
  where
    go : (b : Bool) → pick {X = ℕ} b 20 19 ≡ 0 → ⊥
    go true e = omega arith
    go false e = omega arith

-- where only an absolute value is wanted, it has an absolute one
pub record AcceptedAbsolute (e : Result Value Fault) : Type 0 where
  pub amount : ℕ
  pub good : e ≡ Ok (Value.Absolute (record { 0 = amount }))

pub accepted-absolute : (e : Result Value Fault) → refusal_for OnlyAbsolute e ≡ 0 → AcceptedAbsolute e
accepted-absolute e h = let a = accepted OnlyAbsolute e h in go a.value a.good a.kind
  where
    go : (v : Value) → e ≡ Ok v → suits OnlyAbsolute (kind_of v) ≡ true → AcceptedAbsolute e
    go (Value.Absolute a) g k = record { amount = a.0; good = g }
    go (Value.Relocatable a) g k = clash (cc)

-- where only a relocatable value is wanted, it has a relocatable one
pub record AcceptedRelocatable (e : Result Value Fault) : Type 0 where
  pub amount : ℕ
  pub good : e ≡ Ok (Value.Relocatable (record { 0 = amount }))

pub accepted-relocatable : (e : Result Value Fault) → refusal_for OnlyRelocatable e ≡ 0 → AcceptedRelocatable e
accepted-relocatable e h = let a = accepted OnlyRelocatable e h in go a.value a.good a.kind
  where
    go : (v : Value) → e ≡ Ok v → suits OnlyRelocatable (kind_of v) ≡ true → AcceptedRelocatable e
    go (Value.Absolute a) g k = clash (cc)
    go (Value.Relocatable a) g k = record { amount = a.0; good = g }

fits : (look : ℕ → Option Meaning) (here : ℕ) (e : Read (List (Addend Placed))) → with_value (value_in (evaluated look here e)) amount_of 0 < 65536
unfolding evaluated value_of
fits look here (up_to xs q) = go (sum_of (map (addend_factors look here) xs))
  where
    absolute : (b : Bool) (s : Sum) → with_value (value_in (pick b (Err (OutOfRange Kind.Absolute)) (Ok (Value.Absolute (record { 0 = (s.added + 65536 - s.subtracted) % 65536 }))))) amount_of 0 < 65536
    absolute true s = omega arith
    absolute false s = omega arith

    relocatable : (o a : Bool) (s : Sum) → (b : Bool) → ltb (s.subtracted + 65535) s.added ≡ b
        → with_value (value_in (pick (either o (either a b)) (Err (OutOfRange Kind.Relocatable)) (Ok (Value.Relocatable (record { 0 = s.added - s.subtracted }))))) amount_of 0 < 65536
    relocatable true a s b h = omega arith
    relocatable false true s b h = omega arith
    relocatable false false s true h = omega arith
    relocatable false false s false h = omega (arith, ltb-false (s.subtracted + 65535) s.added h)

    go : (s : Sum) → with_value (value_in (value_of s)) amount_of 0 < 65536
    go s = at s.undefined s.mixed (eqb s.after_plus s.after_minus) (eqb s.after_plus (s.after_minus + 1))
      where
        at : (a b c d : Bool) → with_value (value_in (pick a (Err Undefined) (pick b (Err WrongKind) (pick c (absolute_of s) (pick d (relocatable_of s) (Err WrongKind)))))) amount_of 0 < 65536
        at true b c d = omega arith
        at false true c d = omega arith
        at false false true d = absolute (either s.out (either (ltb (s.added + 65536) s.subtracted) (ltb (s.subtracted + 65535) s.added))) s
        at false false false true = relocatable s.out (ltb s.added s.subtracted) s (ltb (s.subtracted + 65535) s.added) refl
        at false false false false = omega arith
fits look here (fails q) = omega arith

-- a value is at most 65535
pub value-fits : (look : ℕ → Option Meaning) (here : ℕ) (e : Read (List (Addend Placed))) (v : Value) → evaluated look here e ≡ Ok v → amount_of v < 65536
value-fits look here e v h = let f = fits look here e in rw h at f
