-- What the code holds comes to the value of the definitions: a product kept in range and a sum held 16777216 above its value are the exact ones, as long as none leaves its range.
use Prim.Native.Nat.{ℕ, ◌+◌, ◌-◌, ◌*◌, ◌%◌, ◌≤◌, ◌<◌}
use mathlib.Core.List.{List, [], ◌∷◌}
use mathlib.Core.Bool.{Bool, true, false}
use mathlib.Core.Path.{◌≡◌, refl, sym, ap, ◌∙◌}
use native.Mathlib.Nat.{add-zero, zero-add}
use native.Mathlib.Omega.{arith}
use lib.Dec.{ltb}
use borrow.Author.Tests.{ltb-true, ltb-false, le-ltb, le-leb}
use Rattle.values.specs.Tests.{pick, either}
use Rattle.values.proofs.Laws.{clash}
use Rattle.expressions.specs.declared.factors.Factor.{Factor}
use Rattle.expressions.specs.declared.sums.Held.{Held}
use Rattle.expressions.specs.declared.sums.Running.{Running}
use Rattle.expressions.specs.declared.Kind.{Kind}
use Rattle.expressions.specs.Form.{Product, Addend}
use Rattle.expressions.specs.Value.{times, times_out, any_relocatable, any_undefined, mixed_with, alone_with, worth, product_out, mixed, alone, undefined_in, if_plus, if_minus, counted, added, subtracted, after_plus, after_minus, sum_out, any_out, any_mixed, any_unknown, sum_of, value_of}
use Rattle.expressions.specs.Steps.{begun, multiplied, multiplied_all, held, summed, summed_out, nothing, run_on, run_all, absolute_end, relocatable_end, ended}
use Rattle.std.specs.Prelude.{Ok, Err}
use Rattle.values.specs.declared.Value.{Value}
use Rattle.expressions.specs.declared.Fault.TheVariants.{OutOfRange}

-- TESTS

either_assoc : (a b c : Bool) → either (either a b) c ≡ either a (either b c)
either_assoc true b c = refl
either_assoc false b c = refl

same-ltb : (a b c d : ℕ) → (a < b → c < d) → (c < d → a < b) → ltb a b ≡ ltb c d
same-ltb a b c d f g = go (ltb a b) refl (ltb c d) refl
  where
    go : (x : Bool) → ltb a b ≡ x → (y : Bool) → ltb c d ≡ y → x ≡ y
    go true h true k = refl
    go true h false k = let l = f (ltb-true a b h) in absurd (omega (arith, ltb-false c d k))
    go false h true k = let l = g (ltb-true c d k) in absurd (omega (arith, ltb-false a b h))
    go false h false k = refl

-- PRODUCTS

held-undefined : (h : Held) (fs : List Factor) → (multiplied_all h fs).undefined ≡ either h.undefined (any_undefined fs)
unfolding multiplied_all multiplied any_undefined
held-undefined h [] = go h.undefined
  where
    go : (u : Bool) → u ≡ either u false
    go true = refl
    go false = refl
held-undefined h (f ∷ fs) = held-undefined (multiplied h f) fs ∙ either_assoc h.undefined f.undefined (any_undefined fs)

held-alone : (h : Held) (fs : List Factor) → h.relocatable ≡ false → (multiplied_all h fs).relocatable ≡ false
unfolding multiplied_all multiplied
held-alone h [] e = e
held-alone h (f ∷ fs) e = held-alone (multiplied h f) fs refl

held-mixed : (h : Held) (fs : List Factor) → h.relocatable ≡ false → (multiplied_all h fs).mixed ≡ either h.mixed (any_relocatable fs)
unfolding multiplied_all multiplied any_relocatable
held-mixed h [] e = go h.mixed
  where
    go : (m : Bool) → m ≡ either m false
    go true = refl
    go false = refl
held-mixed h (f ∷ fs) e =
    held-mixed (multiplied h f) fs refl ∙ either_assoc h.mixed (either h.relocatable f.relocatable) (any_relocatable fs) ∙ rw e

-- once out of range, out of range
held-over : (h : Held) (fs : List Factor) → h.out ≡ true → (multiplied_all h fs).out ≡ true
unfolding multiplied_all multiplied
held-over h [] e = e
held-over h (f ∷ fs) e = held-over (multiplied h f) fs (rw e)

held_range : (h : Held) (fs : List Factor) → h.out ≡ false
    → ((multiplied_all h fs).out ≡ times_out h.value fs) × (times_out h.value fs ≡ false → (multiplied_all h fs).value ≡ times h.value fs)
unfolding multiplied_all multiplied times times_out
held_range h [] e = (e, λ t. refl)
held_range h (f ∷ fs) e = go (λ o. held_range (multiplied h f) fs o) (ltb 16777215 (h.value * f.value)) refl
  where
    go : ((multiplied h f).out ≡ false
        → ((multiplied_all (multiplied h f) fs).out ≡ times_out (multiplied h f).value fs)
        × (times_out (multiplied h f).value fs ≡ false → (multiplied_all (multiplied h f) fs).value ≡ times (multiplied h f).value fs))
        → (b : Bool) → ltb 16777215 (h.value * f.value) ≡ b
        → ((multiplied_all (multiplied h f) fs).out ≡ either b (times_out (h.value * f.value) fs))
        × (either b (times_out (h.value * f.value) fs) ≡ false → (multiplied_all (multiplied h f) fs).value ≡ times (h.value * f.value) fs)
    go ih true t = (held-over (multiplied h f) fs (rw (e, t)), λ z. clash (cc))
    go ih false t =
        let v : (multiplied h f).value ≡ h.value * f.value = rw t in
        let (a, b) = ih (rw (e, t)) in
        (a ∙ ap (λ w. times_out w fs) v, λ z. b (ap (λ w. times_out w fs) v ∙ z) ∙ ap (λ w. times w fs) v)

-- what is held of a product
record Holds (p : Product Factor) (h : Held) : Type 0 where
  alone : h.relocatable ≡ alone p
  undefined : h.undefined ≡ undefined_in p
  mixed : h.mixed ≡ mixed p
  out : h.out ≡ product_out p
  value : product_out p ≡ false → h.value ≡ worth p

holds : (p : Product Factor) → Holds p (held p)
unfolding multiplied_all multiplied any_relocatable
holds p = record {
  alone = lone p.others;
  undefined = held-undefined (begun p.first) p.others;
  mixed = mix p.others;
  out = (held_range (begun p.first) p.others refl).0;
  value = (held_range (begun p.first) p.others refl).1;
}
  where
    lone : (fs : List Factor) → (multiplied_all (begun p.first) fs).relocatable ≡ alone_with p.first fs
    lone [] = refl
    lone (f ∷ fs) = held-alone (multiplied (begun p.first) f) fs refl

    mix : (fs : List Factor) → (multiplied_all (begun p.first) fs).mixed ≡ mixed_with p.first fs
    mix [] = refl
    mix (f ∷ fs) = held-mixed (multiplied (begun p.first) f) fs refl ∙ either_assoc p.first.relocatable f.relocatable (any_relocatable fs)

-- SUMS

run_undefined : (r : Running) (xs : List (Addend Factor)) → (run_all r xs).undefined ≡ either r.undefined (any_unknown xs)
unfolding run_all run_on any_unknown
run_undefined r [] = go r.undefined
  where
    go : (u : Bool) → u ≡ either u false
    go true = refl
    go false = refl
run_undefined r (x ∷ xs) =
    run_undefined (run_on r x.minus (held x.product)) xs
    ∙ ap (λ u. either (either r.undefined u) (any_unknown xs)) (holds x.product).undefined
    ∙ either_assoc r.undefined (undefined_in x.product) (any_unknown xs)

run_mixed : (r : Running) (xs : List (Addend Factor)) → (run_all r xs).mixed ≡ either r.mixed (any_mixed xs)
unfolding run_all run_on any_mixed
run_mixed r [] = go r.mixed
  where
    go : (m : Bool) → m ≡ either m false
    go true = refl
    go false = refl
run_mixed r (x ∷ xs) =
    run_mixed (run_on r x.minus (held x.product)) xs
    ∙ ap (λ m. either (either r.mixed m) (any_mixed xs)) (holds x.product).mixed
    ∙ either_assoc r.mixed (mixed x.product) (any_mixed xs)

run_plus : (r : Running) (xs : List (Addend Factor)) → (run_all r xs).plus ≡ r.plus + after_plus xs
unfolding run_all run_on after_plus
run_plus r [] = sym (add-zero r.plus)
run_plus r (x ∷ xs) =
    let e = run_plus (run_on r x.minus (held x.product)) xs in
    let a : if_plus x.minus (counted (held x.product).relocatable) ≡ if_plus x.minus (counted (alone x.product)) = ap (λ b. if_plus x.minus (counted b)) (holds x.product).alone in
    omega arith

run_minus : (r : Running) (xs : List (Addend Factor)) → (run_all r xs).minus ≡ r.minus + after_minus xs
unfolding run_all run_on after_minus
run_minus r [] = sym (add-zero r.minus)
run_minus r (x ∷ xs) =
    let e = run_minus (run_on r x.minus (held x.product)) xs in
    let a : if_minus x.minus (counted (held x.product).relocatable) ≡ if_minus x.minus (counted (alone x.product)) = ap (λ b. if_minus x.minus (counted b)) (holds x.product).alone in
    omega arith

-- a sum in range, p added and m subtracted
record In (sum p m : ℕ) : Type 0 where
  is : sum + m ≡ p + 16777216
  top : sum ≤ 33554431

-- a value that goes into a sum in range
step-out : (minus : Bool) (s v p m : ℕ) → In s p m → summed_out minus s v ≡ sum_out (p + if_plus minus v) (m + if_minus minus v)
unfolding summed_out
step-out true s v p m i =
    let a : ltb (m + v + 16777215) (p + 0) ≡ false = le-ltb (m + v + 16777215) (p + 0) (omega arith) in
    let b : ltb s v ≡ ltb (p + 0 + 16777216) (m + v) = same-ltb s v (p + 0 + 16777216) (m + v) (λ h. omega arith) (λ h. omega arith) in
    b ∙ go (ltb (p + 0 + 16777216) (m + v)) a
  where
    go : (x : Bool) → ltb (m + v + 16777215) (p + 0) ≡ false → x ≡ either x (ltb (m + v + 16777215) (p + 0))
    go true a = refl
    go false a = sym a
step-out false s v p m i =
    let a : ltb (p + v + 16777216) (m + 0) ≡ false = le-ltb (p + v + 16777216) (m + 0) (omega arith) in
    let b : ltb 33554431 (s + v) ≡ ltb (m + 0 + 16777215) (p + v) = same-ltb 33554431 (s + v) (m + 0 + 16777215) (p + v) (λ h. omega arith) (λ h. omega arith) in
    b ∙ rw a

step_in : (minus : Bool) (s v p m : ℕ) → In s p m → summed_out minus s v ≡ false → In (summed minus s v) (p + if_plus minus v) (m + if_minus minus v)
unfolding summed_out summed
step_in true s v p m i e =
    let h : v ≤ s = ltb-false s v e in
    rw (le-leb v s h) (record { is = omega arith; top = omega arith })
step_in false s v p m i e =
    let h : s + v ≤ 33554431 = ltb-false 33554431 (s + v) e in
    rw (le-leb (s + v) 33554431 h) (record { is = omega arith; top = omega arith })

run_over : (r : Running) (xs : List (Addend Factor)) → r.out ≡ true → (run_all r xs).out ≡ true
unfolding run_all run_on
run_over r [] e = e
run_over r (x ∷ xs) e = run_over (run_on r x.minus (held x.product)) xs (rw e)

run_range : (r : Running) (p m : ℕ) (xs : List (Addend Factor)) → r.out ≡ false → In r.sum p m
    → ((run_all r xs).out ≡ any_out p m xs) × (any_out p m xs ≡ false → In (run_all r xs).sum (p + added xs) (m + subtracted xs))
unfolding run_all run_on any_out added subtracted
run_range r p m [] e i = (e, λ t. record { is = omega arith; top = i.top })
run_range r p m (x ∷ xs) e i =
    go (λ o n. run_range (run_on r x.minus h) p' m' xs o n) (product_out x.product) refl (sum_out p' m') refl
  where
    h : Held
    h = held x.product

    p' : ℕ
    p' = p + if_plus x.minus (worth x.product)

    m' : ℕ
    m' = m + if_minus x.minus (worth x.product)

    go : ((run_on r x.minus h).out ≡ false → In (run_on r x.minus h).sum p' m'
        → ((run_all (run_on r x.minus h) xs).out ≡ any_out p' m' xs) × (any_out p' m' xs ≡ false → In (run_all (run_on r x.minus h) xs).sum (p' + added xs) (m' + subtracted xs)))
        → (a : Bool) → product_out x.product ≡ a → (b : Bool) → sum_out p' m' ≡ b
        → ((run_all (run_on r x.minus h) xs).out ≡ either a (either b (any_out p' m' xs)))
        × (either a (either b (any_out p' m' xs)) ≡ false
        → In (run_all (run_on r x.minus h) xs).sum (p + (if_plus x.minus (worth x.product) + added xs)) (m + (if_minus x.minus (worth x.product) + subtracted xs)))
    go ih true u b w =
        let o : h.out ≡ true = (holds x.product).out ∙ u in
        (run_over (run_on r x.minus h) xs (rw (e, o)), λ z. clash (cc))
    go ih false u b w =
        let o : h.out ≡ false = (holds x.product).out ∙ u in
        let v : h.value ≡ worth x.product = (holds x.product).value u in
        let t : summed_out x.minus r.sum h.value ≡ b = ap (summed_out x.minus r.sum) v ∙ step-out x.minus r.sum (worth x.product) p m i ∙ w in
        by b t
      where
        by : (b : Bool) → summed_out x.minus r.sum h.value ≡ b
            → ((run_all (run_on r x.minus h) xs).out ≡ either b (any_out p' m' xs))
            × (either b (any_out p' m' xs) ≡ false
            → In (run_all (run_on r x.minus h) xs).sum (p + (if_plus x.minus (worth x.product) + added xs)) (m + (if_minus x.minus (worth x.product) + subtracted xs)))
        by true t =
            let o : h.out ≡ false = (holds x.product).out ∙ u in
            (run_over (run_on r x.minus h) xs (rw (e, o, t)), λ z. clash (cc))
        by false t =
            let o : h.out ≡ false = (holds x.product).out ∙ u in
            let v : h.value ≡ worth x.product = (holds x.product).value u in
            let n : In (summed x.minus r.sum h.value) p' m' = rw v (step_in x.minus r.sum (worth x.product) p m i (ap (summed_out x.minus r.sum) (sym v) ∙ t)) in
            let (a, c) = ih (rw (e, o, t)) n in
            (a, λ z. let q = c z in record { is = omega (arith, q.is); top = q.top })

-- THE END

absolute-same : (sum a b : ℕ) (out : Bool) → (out ≡ false → In sum a b)
    → absolute_end sum out ≡ pick (either out (either (ltb (a + 65536) b) (ltb (b + 65535) a))) (Err (OutOfRange Kind.Absolute)) (Ok (Value.Absolute (record { 0 = (a + 65536 - b) % 65536 })))
absolute-same sum a b true i = refl
absolute-same sum a b false i =
    let n = i refl in
    let l : ltb sum 16711680 ≡ ltb (a + 65536) b = same-ltb sum 16711680 (a + 65536) b (λ h. omega (arith, n.is)) (λ h. omega (arith, n.is)) in
    let u : ltb 16842751 sum ≡ ltb (b + 65535) a = same-ltb 16842751 sum (b + 65535) a (λ h. omega (arith, n.is)) (λ h. omega (arith, n.is)) in
    rw (l, u) (go (ltb (a + 65536) b) refl (ltb (b + 65535) a) n.is)
  where
    go : (x : Bool) → ltb (a + 65536) b ≡ x → (y : Bool) → sum + b ≡ a + 16777216
        → pick (either x y) (Err (OutOfRange Kind.Absolute)) (Ok (Value.Absolute (record { 0 = sum % 65536 }))) ≡ pick (either x y) (Err (OutOfRange Kind.Absolute)) (Ok (Value.Absolute (record { 0 = (a + 65536 - b) % 65536 })))
    go true h y e = refl
    go false h true e = refl
    go false h false e = ap (λ (n : ℕ). Ok (Value.Absolute (record { 0 = n }))) (omega (arith, ltb-false (a + 65536) b h))

relocatable-same : (sum a b : ℕ) (out : Bool) → (out ≡ false → In sum a b)
    → relocatable_end sum out ≡ pick (either out (either (ltb a b) (ltb (b + 65535) a))) (Err (OutOfRange Kind.Relocatable)) (Ok (Value.Relocatable (record { 0 = a - b })))
relocatable-same sum a b true i = refl
relocatable-same sum a b false i =
    let n = i refl in
    let l : ltb sum 16777216 ≡ ltb a b = same-ltb sum 16777216 a b (λ h. omega (arith, n.is)) (λ h. omega (arith, n.is)) in
    let u : ltb 16842751 sum ≡ ltb (b + 65535) a = same-ltb 16842751 sum (b + 65535) a (λ h. omega (arith, n.is)) (λ h. omega (arith, n.is)) in
    rw (l, u) (go (ltb a b) refl (ltb (b + 65535) a) refl n.is)
  where
    go : (x : Bool) → ltb a b ≡ x → (y : Bool) → ltb (b + 65535) a ≡ y → sum + b ≡ a + 16777216
        → pick (either x y) (Err (OutOfRange Kind.Relocatable)) (Ok (Value.Relocatable (record { 0 = sum % 65536 }))) ≡ pick (either x y) (Err (OutOfRange Kind.Relocatable)) (Ok (Value.Relocatable (record { 0 = a - b })))
    go true h y k e = refl
    go false h true k e = refl
    go false h false k e = ap (λ (n : ℕ). Ok (Value.Relocatable (record { 0 = n }))) (omega (arith, ltb-false a b h, ltb-false (b + 65535) a k))

-- what the code comes to is the value
pub ended_same : (xs : List (Addend Factor)) → ended (run_all nothing xs) ≡ value_of (sum_of xs)
unfolding ended value_of
ended_same xs =
    let u = run_undefined nothing xs in
    let m = run_mixed nothing xs in
    let p = run_plus nothing xs ∙ zero-add (after_plus xs) in
    let q = run_minus nothing xs ∙ zero-add (after_minus xs) in
    let (o, i) = run_range nothing 0 0 xs refl (record { is = refl; top = omega arith }) in
    let n : (run_all nothing xs).out ≡ false → In (run_all nothing xs).sum (added xs) (subtracted xs) =
    λ z. let k = i (sym o ∙ z) in record { is = omega (arith, k.is); top = k.top } in
    let a = absolute-same (run_all nothing xs).sum (added xs) (subtracted xs) (run_all nothing xs).out n in
    let b = relocatable-same (run_all nothing xs).sum (added xs) (subtracted xs) (run_all nothing xs).out n in
    rw (u, m, p, q, a, b, o)
