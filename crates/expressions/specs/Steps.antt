-- What the code holds on its way through an expression. Only the contracts of functions inside cite these; proofs/Same.antt joins them to the definitions of Value.antt.
use Rattle.std.specs.Prelude.{Option, Some, None, ℕ, ◌+◌, ◌-◌, ◌*◌, ◌%◌, List, [], ◌∷◌, map, Bool, true, false, ltb, leb, eqb, Result, Ok, Err}
use Rattle.values.specs.Tests.{pick, either}
use Rattle.names.specs.declared.Meaning.{Meaning}
use Rattle.expressions.specs.declared.factors.Factor.{Factor}
use Rattle.expressions.specs.declared.sums.Held.{Held}
use Rattle.expressions.specs.declared.sums.Running.{Running}
use Rattle.expressions.specs.declared.Kind.{Kind}
use Rattle.expressions.specs.Form.{Placed, Product, Addend, Read}
use Rattle.expressions.specs.Form.Read.{up_to, fails}
use Rattle.expressions.specs.Value.{placed_factor, product_factors, addend_factors, if_plus, if_minus, counted}
use Rattle.values.specs.declared.Value.{Value}
use Rattle.expressions.specs.declared.Fault.{Fault}
use Rattle.expressions.specs.declared.Fault.TheVariants.{Malformed, Undefined, WrongKind, OutOfRange}

-- A PRODUCT AT HAND: 0 once a partial product was out of range

abbrev pub kept : ℕ → ℕ
kept p = pick (ltb 16777215 p) 0 p

abbrev pub begun : Factor → Held
begun f = record { value = f.value; relocatable = f.relocatable; undefined = f.undefined; mixed = false; out = false }

unfoldable pub multiplied : Held → Factor → Held
multiplied h f = record {
  value = kept (h.value * f.value);
  relocatable = false;
  undefined = either h.undefined f.undefined;
  mixed = either h.mixed (either h.relocatable f.relocatable);
  out = either h.out (ltb 16777215 (h.value * f.value));
}

unfoldable pub multiplied_all : Held → List Factor → Held
multiplied_all h [] = h
multiplied_all h (f ∷ fs) = multiplied_all (multiplied h f) fs

abbrev pub held : Product Factor → Held
held p = multiplied_all (begun p.first) p.others

-- the product at a position, with what was held before its other factors
unfoldable pub held_on : (ℕ → Option Meaning) → ℕ → Held → Read (List Placed) → Option (Held × ℕ)
held_on look here h (up_to xs q) = Some ((multiplied_all h (map (placed_factor look here) xs)), q)
held_on look here h (fails q) = None

unfoldable pub held_at : (ℕ → Option Meaning) → ℕ → Read (Product Placed) → Option (Held × ℕ)
held_at look here (up_to p q) = Some ((held (product_factors look here p)), q)
held_at look here (fails q) = None

-- THE RUNNING SUM: 16777216 above its value, and left where it was when it would leave the range

unfoldable pub summed : Bool → ℕ → ℕ → ℕ
summed true s v = pick (leb v s) (s - v) s
summed false s v = pick (leb (s + v) 33554431) (s + v) s

unfoldable pub summed_out : Bool → ℕ → ℕ → Bool
summed_out true s v = ltb s v
summed_out false s v = ltb 33554431 (s + v)

abbrev pub nothing : Running
nothing = record { sum = 16777216; plus = 0; minus = 0; undefined = false; mixed = false; out = false }

unfoldable pub run_on : Running → Bool → Held → Running
run_on r m h = record {
  sum = summed m r.sum h.value;
  plus = r.plus + if_plus m (counted h.relocatable);
  minus = r.minus + if_minus m (counted h.relocatable);
  undefined = either r.undefined h.undefined;
  mixed = either r.mixed h.mixed;
  out = either r.out (either h.out (summed_out m r.sum h.value));
}

unfoldable pub run_all : Running → List (Addend Factor) → Running
run_all r [] = r
run_all r (x ∷ xs) = run_all (run_on r x.minus (held x.product)) xs

-- a sum in the range of its kind
abbrev pub ranged : Kind → ℕ → Running → Result ℕ Fault
ranged k least r = pick (either r.out (either (ltb r.sum least) (ltb 16842751 r.sum))) (Err (OutOfRange k)) (Ok (r.sum % 65536))

abbrev pub absolute_end : ℕ → Bool → Result Value Fault
absolute_end sum out =
    pick (either out (either (ltb sum 16711680) (ltb 16842751 sum)))
    (Err (OutOfRange Kind.Absolute))
    (Ok (Value.Absolute (record { 0 = sum % 65536 })))

abbrev pub relocatable_end : ℕ → Bool → Result Value Fault
relocatable_end sum out =
    pick (either out (either (ltb sum 16777216) (ltb 16842751 sum)))
    (Err (OutOfRange Kind.Relocatable))
    (Ok (Value.Relocatable (record { 0 = sum % 65536 })))

unfoldable pub ended : Running → Result Value Fault
ended r =
    pick r.undefined (Err Undefined)
    (pick r.mixed (Err WrongKind)
    (pick (eqb r.plus r.minus) (absolute_end r.sum r.out)
    (pick (eqb r.plus (r.minus + 1)) (relocatable_end r.sum r.out) (Err WrongKind))))

unfoldable pub run_from : (ℕ → Option Meaning) → ℕ → Running → Read (List (Addend Placed)) → Result Value Fault
run_from look here r (up_to xs q) = ended (run_all r (map (addend_factors look here) xs))
run_from look here r (fails q) = Err Malformed
