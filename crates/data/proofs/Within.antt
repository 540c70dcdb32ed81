-- Where operands end, or fail: inside the columns; and what callers cite of the positions in an operand.
use Prim.Native.Nat.{ℕ, zero, suc, ◌+◌, ◌-◌, ◌≤◌, ◌<◌}
use mathlib.Core.List.{List}
use mathlib.Core.Path.{◌≡◌, refl, sym, ap, ◌∙◌}
use mathlib.Core.Bool.{Bool, true, false}
use native.Mathlib.Decide.{dec_le}
use native.Mathlib.Omega.{arith}
use borrow.Author.Tests.{eqb-true, eqb-false, le-ltb}
use lib.Dec.{eqb, ltb}
use lib.ListN.{length, get_or}
use Rattle.letters.specs.Text.{stands}
use Rattle.values.proofs.Laws.{clash}
use Rattle.values.specs.Tests.{pick}
use Rattle.letters.specs.Letters.{digit_of}
use Rattle.letters.specs.Text.{is_from_to}
use Rattle.letters.proofs.Laws.{inside}
use Rattle.letters.proofs.Runs.{run_bounds, run_inside}
use Rattle.terms.specs.declared.Quoted.{Quoted}
use Rattle.terms.specs.declared.Quoted.TheVariants.{One, Closed}
use Rattle.terms.specs.Terms.{quoted_at}
use Rattle.terms.proofs.Within.{Stops, QuotedWithin, quoted_within, stands-inside}
use Rattle.expressions.specs.Form.{form_of, expression_at}
use Rattle.expressions.proofs.Reading.{Reaches, expression_reaches}
use Rattle.data.specs.declared.DataType.{DataType}
use Rattle.data.specs.declared.DataType.TheVariants.{Characters, Hexadecimal, Decimal, Address}
use Rattle.data.specs.declared.Data.{Data}
use Rattle.data.specs.declared.head.Head.{Head}
use Rattle.data.specs.Runs.{digits_end, told}
use Rattle.data.specs.Form.{type_of, copies_before, length_up_to, length_at, head_of, head_from, head_at, characters_on, characters_from, characters_at, run_up_to, run_at, address_of, address_at, opening_of, opened_at, value_at, constant_data, constant_up_to, constant_behind, constant_of, constant_form, reserve_of, reserve_form}
use Rattle.std.specs.Prelude.{Option, Some, None, Result, Ok, Err}

-- RUNS OF DIGITS

-- digits end where they begin, or inside
pub digits_within : (base : ℕ) (s : List ℕ) (at : ℕ) → base ≤ 16 → (at ≤ digits_end base s at) × (at < digits_end base s at → digits_end base s at ≤ length s)
unfolding digits_end digit_of is_from_to
digits_within base s at b =
    ((run_bounds (λ d. ltb (digit_of d) base) (length s) s at).0, run_inside (λ d. ltb (digit_of d) base) (le-ltb 16 base b) (length s) s at)

-- VALUES

-- a value whose first character may stand at a: behind its characters is the closing apostrophe or parenthesis; one that fails does so from a position on
abbrev pub Spans : List ℕ → ℕ → ℕ → Result (ℕ × ℕ) ℕ → Type 0
Spans s a at (Ok (count, end)) = (a + count < end) × (end ≤ length s)
Spans s a at (Err place) = Stops s at place

told_below : (n : ℕ) → told n ≤ n
unfolding told
told_below n = omega arith

characters_span : (n : ℕ) (s : List ℕ) (a at k : ℕ) → a + k ≤ at → Spans s a at (characters_from n s at k)
unfolding characters_from
characters_span zero s a at k h = (omega arith, λ l. l)
characters_span (suc n) s a at k h = go (quoted_at s at) (quoted_within s at) (λ next l. characters_span n s a next (k + 1) l)
  where
    further : (next : ℕ) → at < next → next ≤ length s → (e : Result (ℕ × ℕ) ℕ) → Spans s a next e → Spans s a at e
    further next b l (Ok (count, end)) w = w
    further next b l (Err place) w = (omega arith, λ i. w.1 l)

    closed : (x : Bool) (next : ℕ) → at < next → next ≤ length s → Spans s a at (pick x (Err next) (Ok ((told k), next)))
    closed true next b l = (omega arith, λ i. l)
    closed false next b l = let t = told_below k in (omega arith, l)

    go : (q : Result (Quoted × ℕ) ℕ) → QuotedWithin s at q → ((next : ℕ) → a + (k + 1) ≤ next → Spans s a next (characters_from n s next (k + 1)))
        → Spans s a at (characters_on k q (λ next. characters_from n s next (k + 1)))
    go (Ok (One code, next)) w ih = further next w.0 w.1 (characters_from n s next (k + 1)) (ih next (omega arith))
    go (Ok (Closed, next)) w ih = closed (eqb k 0) next w.0 w.1
    go (Err place) w ih = (omega arith, λ l. omega arith)

run_span : (base : ℕ) (s : List ℕ) (at : ℕ) → base ≤ 16 → Spans s at at (run_at base s at)
unfolding run_at
run_span base s at b = go (digits_end base s at) (digits_within base s at b)
  where
    go : (end : ℕ) → (at ≤ end) × (at < end → end ≤ length s) → Spans s at at (run_up_to s at end)
    go end w = by (eqb end at) refl (stands "'" s end) refl
      where
        by : (x : Bool) → eqb end at ≡ x → (y : Bool) → stands "'" s end ≡ y
            → Spans s at at (pick x (Err at) (pick y (Ok ((told (end - at)), (end + 1))) (Err end)))
        by true e y f = (omega arith, λ l. l)
        by false e true f = let t = told_below (end - at) in (omega arith, omega (arith, stands-inside 39 s end (omega arith) f))
        by false e false f = let n = eqb-false end at e in (w.0, λ l. w.1 (omega arith))

address_span : (s : List ℕ) (at : ℕ) → Spans s at at (address_at s at)
unfolding address_at
address_span s at = go (form_of (expression_at s at)) (expression_reaches s at)
  where
    closed : (q : ℕ) → at < q → q ≤ length s → (x : Bool) → stands ")" s q ≡ x → Spans s at at (pick x (Ok (0, (q + 1))) (Err q))
    closed q h l true e = (omega arith, omega (arith, stands-inside 41 s q (omega arith) e))
    closed q h l false e = (omega arith, λ i. l)

    go : (f : Result ℕ ℕ) → Reaches s at f → Spans s at at (address_of s f)
    go (Ok q) w = closed q w.0 w.1 (stands ")" s q) refl
    go (Err q) w = w

opened_span : (s : List ℕ) (kind : DataType) (at : ℕ) → Spans s at at (opened_at s kind at)
unfolding characters_at
opened_span s Characters at = characters_span (suc (length s)) s at at 0 (omega arith)
opened_span s Hexadecimal at = run_span 16 s at (omega arith)
opened_span s Decimal at = run_span 10 s at (omega arith)
opened_span s Address at = address_span s at

pub opening-inside : (s : List ℕ) (kind : DataType) (at : ℕ) → eqb (get_or s at 0) (opening_of kind) ≡ true → at < length s
opening-inside s Characters at e = stands-inside 39 s at (omega arith) e
opening-inside s Hexadecimal at e = stands-inside 39 s at (omega arith) e
opening-inside s Decimal at e = stands-inside 39 s at (omega arith) e
opening-inside s Address at e = stands-inside 40 s at (omega arith) e

-- a value that opens at a position
pub value_span : (s : List ℕ) (kind : DataType) (at : ℕ) → Spans s (at + 1) at (value_at s kind at)
unfolding value_at
value_span s kind at = go (eqb (get_or s at 0) (opening_of kind)) refl
  where
    on : at < length s → (e : Result (ℕ × ℕ) ℕ) → Spans s (at + 1) (at + 1) e → Spans s (at + 1) at e
    on i (Ok (count, end)) w = w
    on i (Err place) w = (omega arith, λ l. w.1 (omega arith))

    go : (x : Bool) → eqb (get_or s at 0) (opening_of kind) ≡ x → Spans s (at + 1) at (pick x (opened_at s kind (at + 1)) (Err at))
    go true e = on (opening-inside s kind at e) (opened_at s kind (at + 1)) (opened_span s kind (at + 1))
    go false e = (omega arith, λ l. l)

-- COPIES, TYPE AND LENGTH

type_zero : type_of 0 ≡ None
unfolding type_of
type_zero = refl

-- a type stands inside
pub type_inside : (s : List ℕ) (at : ℕ) (kind : DataType) → type_of (get_or s at 0) ≡ Some kind → at < length s
type_inside s at kind e =
    inside s at (λ z. let f : None ≡ Some kind = sym (ap type_of z ∙ type_zero) ∙ e in clash (cc))

abbrev pub HeadWithin : List ℕ → Result Head ℕ → Type 0
HeadWithin s (Ok h) = h.next ≤ length s
HeadWithin s (Err place) = place ≤ length s

length-within : (s : List ℕ) (kind : DataType) (copies at : ℕ) → at ≤ length s → HeadWithin s (length_at s kind copies at)
unfolding length_at
length-within s kind copies at l = go (stands "L" s at) refl
  where
    up_to : at < length s → (end : ℕ) → (at + 1 ≤ end) × (at + 1 < end → end ≤ length s) → HeadWithin s (length_up_to s kind copies (at + 1) end)
    up_to i end w = by (eqb end (at + 1)) refl
      where
        by : (x : Bool) → eqb end (at + 1) ≡ x
            → HeadWithin s (pick x (Err (at + 1)) (Ok (record { kind = kind; copies = copies; length = Some (told (Rattle.data.specs.Runs.number_from (end - (at + 1)) s (at + 1) 0)); next = end })))
        by true e = omega arith
        by false e = let n = eqb-false end (at + 1) e in w.1 (omega arith)

    go : (x : Bool) → stands "L" s at ≡ x
        → HeadWithin s (pick x (length_up_to s kind copies (at + 1) (digits_end 10 s (at + 1))) (Ok (record { kind = kind; copies = copies; length = None; next = at })))
    go true e = up_to (stands-inside 76 s at (omega arith) e) (digits_end 10 s (at + 1)) (digits_within 10 s (at + 1) (omega arith))
    go false e = l

pub head-within : (s : List ℕ) → HeadWithin s (head_at s)
unfolding head_at
head-within s = go (digits_end 10 s 0) (digits_within 10 s 0 (omega arith))
  where
    go : (at : ℕ) → (0 ≤ at) × (0 < at → at ≤ length s) → HeadWithin s (head_from s at)
    go at w = by (type_of (get_or s at 0)) refl
      where
        by : (t : Option DataType) → type_of (get_or s at 0) ≡ t → HeadWithin s (head_of s at t)
        by (Some kind) e = length-within s kind (copies_before s at) (at + 1) (omega (arith, type_inside s at kind e))
        by None e = elim (dec_le at 0) [ yes none ↦ omega arith | no some ↦ w.1 (omega arith) ]

-- OPERANDS

-- an operand of DC: its value, closed by one character more, lies inside; or it fails inside, or right behind the columns
abbrev pub ConstantWithin : List ℕ → Result Data ℕ → Type 0
ConstantWithin s (Ok d) = d.value + d.count < length s
ConstantWithin s (Err place) = place ≤ length s

pub constant-within : (s : List ℕ) → ConstantWithin s (constant_form s)
unfolding constant_form constant_behind
constant-within s = go (head_at s) (head-within s)
  where
    up_to : (h : Head) → h.next ≤ length s → (e : Result (ℕ × ℕ) ℕ) → Spans s (h.next + 1) h.next e → ConstantWithin s (constant_up_to s h e)
    up_to h l (Ok (count, end)) w = by (eqb end (length s)) refl
      where
        by : (x : Bool) → eqb end (length s) ≡ x → ConstantWithin s (pick x (Ok (constant_data h count)) (Err end))
        by true e = omega (arith, eqb-true end (length s) e)
        by false e = w.1
    up_to h l (Err place) w = w.1 l

    go : (f : Result Head ℕ) → HeadWithin s f → ConstantWithin s (constant_of s f)
    go (Ok h) w = up_to h w (value_at s h.kind h.next) (value_span s h.kind h.next)
    go (Err place) w = w

-- an operand of DS ends with the columns, and has no value
abbrev pub ReserveWithin : List ℕ → Result Data ℕ → Type 0
ReserveWithin s (Ok d) = (d.value ≡ length s) × (d.count ≡ 0)
ReserveWithin s (Err place) = place ≤ length s

pub reserve-within : (s : List ℕ) → ReserveWithin s (reserve_form s)
unfolding reserve_form
reserve-within s = go (head_at s) (head-within s)
  where
    go : (f : Result Head ℕ) → HeadWithin s f → ReserveWithin s (reserve_of s f)
    go (Ok h) w = by (eqb h.next (length s)) refl
      where
        by : (x : Bool) → eqb h.next (length s) ≡ x
            → ReserveWithin s (pick x (Ok (Rattle.data.specs.Form.reserve_data h)) (Err h.next))
        by true e = (eqb-true h.next (length s) e, refl)
        by false e = w
    go (Err place) w = w

-- the expression of an address constant has its form: it is never refused for it
pub address-ends : (s : List ℕ) (d : Data) → constant_form s ≡ Ok d → d.kind ≡ Address → (q : ℕ) × (form_of (expression_at s d.value) ≡ Ok q)
unfolding constant_form constant_behind value_at address_at
address-ends s d e k = go (head_at s) e
  where
    Found : ℕ → Type 0
    Found at = (q : ℕ) × (form_of (expression_at s at) ≡ Ok q)

    value : (at : ℕ) (f : Result ℕ ℕ) → form_of (expression_at s at) ≡ f → (count end : ℕ) → address_of s f ≡ Ok (count, end) → Found at
    value at (Ok q) w count end t = (q, w)
    value at (Err q) w count end t = clash (cc)

    opened : (h : Head) → h.kind ≡ Address → (x : Bool) (count end : ℕ)
        → pick x (opened_at s h.kind (h.next + 1)) (Err h.next) ≡ Ok (count, end) → Found (h.next + 1)
    opened h k true count end t =
        let u : address_of s (form_of (expression_at s (h.next + 1))) ≡ Ok (count, end) = sym (ap (λ kind. opened_at s kind (h.next + 1)) k) ∙ t in
        value (h.next + 1) (form_of (expression_at s (h.next + 1))) refl count end u
    opened h k false count end t = clash (cc)

    up_to : (h : Head) (x : Result (ℕ × ℕ) ℕ) → pick (eqb (get_or s h.next 0) (opening_of h.kind)) (opened_at s h.kind (h.next + 1)) (Err h.next) ≡ x
        → constant_up_to s h x ≡ Ok d → Found d.value
    up_to h (Ok (count, end)) w t = by (eqb end (length s)) t
      where
        by : (x : Bool) → pick x (Ok (constant_data h count)) (Err end) ≡ Ok d → Found d.value
        by true t =
            let i : constant_data h count ≡ d = cc in
            let kind : h.kind ≡ Address = ap (λ (r : Data). r.kind) i ∙ k in
            rw (sym (ap (λ (r : Data). r.value) i)) (opened h kind (eqb (get_or s h.next 0) (opening_of h.kind)) count end w)
        by false t = clash (cc)
    up_to h (Err place) w t = clash (cc)

    go : (f : Result Head ℕ) → constant_of s f ≡ Ok d → Found d.value
    go (Ok h) t = up_to h (value_at s h.kind h.next) refl t
    go (Err place) t = clash (cc)
