-- R6.3 to R6.11: the value of an expression, over what the names say (look) and the counter at the start of the card (here).
use Rattle.std.specs.Prelude.{Option, Some, None, ℕ, ◌+◌, ◌-◌, ◌*◌, ◌%◌, List, [], ◌∷◌, map, Bool, true, false, ltb, eqb, Result, Ok, Err}
use Rattle.values.specs.Tests.{pick, either}
use Rattle.values.specs.declared.Value.{Value}
use Rattle.values.specs.declared.Wanted.{Wanted}
use Rattle.values.specs.declared.Wanted.TheVariants.{Any, OnlyAbsolute, OnlyRelocatable}
use Rattle.values.specs.Values.{only_absolute, only_relocatable}
use Rattle.terms.specs.declared.Term.{Term}
use Rattle.terms.specs.declared.Term.TheVariants.{Number, Symbol, Here}
use Rattle.names.specs.declared.Meaning.{Meaning}
use Rattle.expressions.specs.declared.factors.Factor.{Factor}
use Rattle.expressions.specs.declared.Kind.{Kind}
use Rattle.expressions.specs.Form.{Placed, Product, Addend, Read}
use Rattle.expressions.specs.Form.Read.{up_to, fails}
use Rattle.values.specs.declared.Absolute.{Absolute}
use Rattle.values.specs.declared.Relocatable.{Relocatable}
use Rattle.expressions.specs.declared.Fault.{Fault}
use Rattle.expressions.specs.declared.Fault.TheVariants.{Malformed, Undefined, WrongKind, OutOfRange}

-- TERMS

abbrev pub value_factor : Value → Factor
value_factor (Value.Absolute a) = record { value = a.0; relocatable = false; undefined = false }
value_factor (Value.Relocatable a) = record { value = a.0; relocatable = true; undefined = false }

abbrev pub meaning_factor : Option Meaning → Factor
meaning_factor (Some m) = value_factor m.value
meaning_factor None = record { value = 0; relocatable = false; undefined = true }

-- R5.2 to R5.7: what a term stands for; `*` is the counter, and relocatable
abbrev pub factor_of : (ℕ → Option Meaning) → ℕ → Term → Factor
factor_of look here (Number v) = record { value = v; relocatable = false; undefined = false }
factor_of look here (Symbol k) = meaning_factor (look k)
factor_of look here Here = record { value = here; relocatable = true; undefined = false }

-- no expression has a place at which no term could go on
abbrev pub factor_at : (ℕ → Option Meaning) → ℕ → Result (Term × ℕ) ℕ → Factor
factor_at look here (Ok (t, q)) = factor_of look here t
factor_at look here (Err q) = record { value = 0; relocatable = false; undefined = false }

abbrev pub placed_factor : (ℕ → Option Meaning) → ℕ → Placed → Factor
placed_factor look here x = factor_at look here x.term

abbrev pub product_factors : (ℕ → Option Meaning) → ℕ → Product Placed → Product Factor
product_factors look here p = record { first = placed_factor look here p.first; others = map (placed_factor look here) p.others }

abbrev pub addend_factors : (ℕ → Option Meaning) → ℕ → Addend Placed → Addend Factor
addend_factors look here a = record { minus = a.minus; product = product_factors look here a.product }

-- PRODUCTS

-- v times the factors
unfoldable pub times : ℕ → List Factor → ℕ
times v [] = v
times v (f ∷ fs) = times (v * f.value) fs

-- R6.6: a product on the way is out of range; none is negative
unfoldable pub times_out : ℕ → List Factor → Bool
times_out v [] = false
times_out v (f ∷ fs) = either (ltb 16777215 (v * f.value)) (times_out (v * f.value) fs)

unfoldable pub any_relocatable : List Factor → Bool
any_relocatable [] = false
any_relocatable (f ∷ fs) = either f.relocatable (any_relocatable fs)

unfoldable pub any_undefined : List Factor → Bool
any_undefined [] = false
any_undefined (f ∷ fs) = either f.undefined (any_undefined fs)

-- R6.4: a relocatable term in a product of two or more
abbrev pub mixed_with : Factor → List Factor → Bool
mixed_with f [] = false
mixed_with f (g ∷ gs) = any_relocatable (f ∷ g ∷ gs)

-- a relocatable term that stands alone
abbrev pub alone_with : Factor → List Factor → Bool
alone_with f [] = f.relocatable
alone_with f (g ∷ gs) = false

abbrev pub worth : Product Factor → ℕ
worth p = times p.first.value p.others

abbrev pub product_out : Product Factor → Bool
product_out p = times_out p.first.value p.others

abbrev pub mixed : Product Factor → Bool
mixed p = mixed_with p.first p.others

abbrev pub alone : Product Factor → Bool
alone p = alone_with p.first p.others

abbrev pub undefined_in : Product Factor → Bool
undefined_in p = either p.first.undefined (any_undefined p.others)

-- SUMS

-- a number where it comes after plus, or after minus; 0 elsewhere
abbrev pub if_plus : Bool → ℕ → ℕ
if_plus true n = 0
if_plus false n = n

abbrev pub if_minus : Bool → ℕ → ℕ
if_minus true n = n
if_minus false n = 0

abbrev pub counted : Bool → ℕ
counted true = 1
counted false = 0

-- what is added in all, and what is subtracted
unfoldable pub added : List (Addend Factor) → ℕ
added [] = 0
added (x ∷ xs) = if_plus x.minus (worth x.product) + added xs

unfoldable pub subtracted : List (Addend Factor) → ℕ
subtracted [] = 0
subtracted (x ∷ xs) = if_minus x.minus (worth x.product) + subtracted xs

-- R6.5: how many relocatable terms are added, and how many subtracted
unfoldable pub after_plus : List (Addend Factor) → ℕ
after_plus [] = 0
after_plus (x ∷ xs) = if_plus x.minus (counted (alone x.product)) + after_plus xs

unfoldable pub after_minus : List (Addend Factor) → ℕ
after_minus [] = 0
after_minus (x ∷ xs) = if_minus x.minus (counted (alone x.product)) + after_minus xs

-- R6.6: a sum on the way is out of range: p was added, m subtracted
abbrev pub sum_out : ℕ → ℕ → Bool
sum_out p m = either (ltb (p + 16777216) m) (ltb (m + 16777215) p)

-- R6.6: a product or sum on the way is out of range, left to right, behind a sum in which p was added and m subtracted
unfoldable pub any_out : ℕ → ℕ → List (Addend Factor) → Bool
any_out p m [] = false
any_out p m (x ∷ xs) =
    either (product_out x.product)
    (either (sum_out (p + if_plus x.minus (worth x.product)) (m + if_minus x.minus (worth x.product)))
    (any_out (p + if_plus x.minus (worth x.product)) (m + if_minus x.minus (worth x.product)) xs))

-- R6.4: 19, a relocatable factor somewhere
unfoldable pub any_mixed : List (Addend Factor) → Bool
any_mixed [] = false
any_mixed (x ∷ xs) = either (mixed x.product) (any_mixed xs)

-- R5.6: 18, a name that is not defined somewhere
unfoldable pub any_unknown : List (Addend Factor) → Bool
any_unknown [] = false
any_unknown (x ∷ xs) = either (undefined_in x.product) (any_unknown xs)

-- an expression's exact sum: added less subtracted; its relocatable terms; and what is wrong whatever becomes of the sum
pub record Sum : Type 0 where
  pub added : ℕ
  pub subtracted : ℕ
  pub after_plus : ℕ
  pub after_minus : ℕ
  pub undefined : Bool
  pub mixed : Bool
  pub out : Bool

abbrev pub sum_of : List (Addend Factor) → Sum
sum_of xs = record {
  added = added xs;
  subtracted = subtracted xs;
  after_plus = after_plus xs;
  after_minus = after_minus xs;
  undefined = any_unknown xs;
  mixed = any_mixed xs;
  out = any_out 0 0 xs;
}

-- THE VALUE

-- R6.7, R6.8: the range of an absolute sum, and then modulo 65536
abbrev pub absolute_of : Sum → Result Value Fault
absolute_of s =
    pick (either s.out (either (ltb (s.added + 65536) s.subtracted) (ltb (s.subtracted + 65535) s.added)))
    (Err (OutOfRange Kind.Absolute))
    (Ok (Value.Absolute (record { 0 = (s.added + 65536 - s.subtracted) % 65536 })))

-- R6.9: the range of a relocatable sum
abbrev pub relocatable_of : Sum → Result Value Fault
relocatable_of s =
    pick (either s.out (either (ltb s.added s.subtracted) (ltb (s.subtracted + 65535) s.added)))
    (Err (OutOfRange Kind.Relocatable))
    (Ok (Value.Relocatable (record { 0 = s.added - s.subtracted })))

-- R6.5: the kind by what is left of the relocatable terms: none, one, or 19
abbrev pub by_kind : Sum → Result Value Fault
by_kind s =
    pick (eqb s.after_plus s.after_minus) (absolute_of s)
    (pick (eqb s.after_plus (s.after_minus + 1)) (relocatable_of s) (Err WrongKind))

-- R6.11: 18, then 19, then 20, whatever their order in the text
unfoldable pub value_of : Sum → Result Value Fault
value_of s = pick s.undefined (Err Undefined) (pick s.mixed (Err WrongKind) (by_kind s))

-- the value of what was read as an expression, or why it has none
unfoldable pub evaluated : (ℕ → Option Meaning) → ℕ → Read (List (Addend Placed)) → Result Value Fault
evaluated look here (up_to xs q) = value_of (sum_of (map (addend_factors look here) xs))
evaluated look here (fails q) = Err Malformed

-- WHAT A PLACE MAKES OF IT

abbrev pub kind_of : Value → Kind
kind_of (Value.Absolute a) = Kind.Absolute
kind_of (Value.Relocatable a) = Kind.Relocatable

abbrev pub is_absolute : Kind → Bool
is_absolute Kind.Absolute = true
is_absolute Kind.Relocatable = false

abbrev pub is_relocatable : Kind → Bool
is_relocatable Kind.Absolute = false
is_relocatable Kind.Relocatable = true

abbrev pub suits : Wanted → Kind → Bool
suits Any k = true
suits OnlyAbsolute k = is_absolute k
suits OnlyRelocatable k = is_relocatable k

-- R6.10, R6.11: the refusal of an expression where a kind is wanted: a wrong kind goes before a value out of range
abbrev pub refusal_for : Wanted → Result Value Fault → ℕ
refusal_for w (Ok v) = pick (suits w (kind_of v)) 0 19
refusal_for w (Err Malformed) = 15
refusal_for w (Err Undefined) = 18
refusal_for w (Err WrongKind) = 19
refusal_for w (Err (OutOfRange k)) = pick (suits w k) 20 19

-- the value, where there is one
abbrev pub value_in : Result Value Fault → Option Value
value_in (Ok v) = Some v
value_in (Err Malformed) = None
value_in (Err Undefined) = None
value_in (Err WrongKind) = None
value_in (Err (OutOfRange k)) = None

-- the value, where there is one and it is absolute
abbrev pub absolute_in : Result Value Fault → Option Absolute
absolute_in e = only_absolute (value_in e)

-- the value, where there is one and it is relocatable
abbrev pub relocatable_in : Result Value Fault → Option Relocatable
relocatable_in e = only_relocatable (value_in e)

-- R10.8: the length that a first term implies
abbrev pub meaning_length : Option Meaning → ℕ
meaning_length (Some m) = m.length
meaning_length None = 1

abbrev pub term_length : (ℕ → Option Meaning) → Result (Term × ℕ) ℕ → ℕ
term_length look (Ok (Number v, q)) = 1
term_length look (Ok (Symbol k, q)) = meaning_length (look k)
term_length look (Ok (Here, q)) = 1
term_length look (Err q) = 1
