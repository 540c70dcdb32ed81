-- Where a term ends: behind its position and inside the columns; and how large its value and a name's number can be.
use Prim.Native.Nat.{ℕ, zero, suc, ◌+◌, ◌*◌, ◌≤◌, ◌<◌, ◌^◌}
use mathlib.Core.List.{List}
use mathlib.Core.Path.{◌≡◌, refl, sym, ap}
use mathlib.Core.Bool.{Bool, true, false}
use native.Mathlib.Decide.{dec_le}
use native.Mathlib.Omega.{arith}
use native.Mathlib.Nat.{add-zero}
use borrow.Author.Tests.{ltb-true, leb-true, eqb-true, eqb-false, lt-ltb}
use lib.Dec.{ltb, leb, eqb}
use lib.ListN.{length, get_or}
use Rattle.values.specs.Tests.{pick}
use Rattle.letters.specs.Text.{stands}
use Rattle.letters.specs.Letters.{class_of, goes_on_name, is_accepted, code_of, digit_of}
use Rattle.letters.specs.declared.Class.{Class}
use Rattle.letters.specs.declared.Class.TheVariants.{Letter, Digit, Sign, Blank, Refused}
use Rattle.letters.proofs.Laws.{inside, inside-accepted, inside-digit, code_below, code_positive, name-accepted, start_goes_on, class_zero}
use Rattle.terms.specs.declared.Digits.{Digits}
use Rattle.terms.specs.declared.Quoted.{Quoted}
use Rattle.terms.specs.declared.Quoted.TheVariants.{One, Closed}
use Rattle.terms.specs.declared.Term.{Term}
use Rattle.terms.specs.declared.Term.TheVariants.{Number, Symbol, Here}
use Rattle.terms.specs.Names.{starts_at, goes_on_at, name_end, name_byte, name_codes, name_number, name_up_to, name_at}
use Rattle.values.proofs.Laws.{Bytes, base256-same, clash}
use Rattle.letters.proofs.Runs.{run_more, run_bounds, run_inside}
use Rattle.terms.specs.Terms.{digit_at, with_digit, digits_from, decimal_of, decimal_at, closed_at, numeral_of, numeral_at, hex_at, binary_at, quoted_at, second_of, first_of, characters_at, symbol_of, symbol_at, lettered_at, term_of, term_at}
use Rattle.std.specs.Prelude.{Result, Ok, Err}

-- a place from a position on, inside the columns where the position is
abbrev pub Stops : List ℕ → ℕ → ℕ → Type 0
Stops s at place = (at ≤ place) × (at ≤ length s → place ≤ length s)

-- what is known of a term that was read at a position
abbrev pub Within : List ℕ → ℕ → Result (Term × ℕ) ℕ → Type 0
Within s at (Ok (Number v, next)) = (at < next) × (next ≤ length s) × (v < 65536)
Within s at (Ok (Symbol n, next)) = (at < next) × (next ≤ length s) × (n < 2 ^ 48)
Within s at (Ok (Here, next)) = (at < next) × (next ≤ length s)
Within s at (Err place) = Stops s at place

-- .. of a name
abbrev pub NameWithin : List ℕ → ℕ → Result (ℕ × ℕ) ℕ → Type 0
NameWithin s at (Ok (n, next)) = (at < next) × (next ≤ length s) × (n < 2 ^ 48)
NameWithin s at (Err place) = Stops s at place

-- .. and of what stands inside apostrophes
abbrev pub QuotedWithin : List ℕ → ℕ → Result (Quoted × ℕ) ℕ → Type 0
QuotedWithin s at (Ok (One code, next)) = (at < next) × (next ≤ length s) × (code < 256)
QuotedWithin s at (Ok (Closed, next)) = (at < next) × (next ≤ length s)
QuotedWithin s at (Err place) = place ≡ at

-- a character that is written out stands inside
pub stands-inside : (k : ℕ) (s : List ℕ) (at : ℕ) → 0 < k → eqb (get_or s at 0) k ≡ true → at < length s
stands-inside k s at p e = inside s at (λ z. omega (arith, eqb-true (get_or s at 0) k e))

-- NAMES

goes_on-zero : goes_on_name (class_of 0) ≡ false
goes_on-zero = ap goes_on_name class_zero

pub name-byte-below : (s : List ℕ) (at end k : ℕ) → name_byte s at end k < 256
unfolding name_byte
name-byte-below s at end k = go (ltb (at + k) end) (code_below (get_or s (at + k) 0))
  where
    go : (x : Bool) → code_of (get_or s (at + k) 0) < 256 → pick x (code_of (get_or s (at + k) 0)) 64 < 256
    go true h = h
    go false h = omega arith

pub number-below : (s : List ℕ) (at end : ℕ) → name_number s at end < 2 ^ 48
unfolding name_number
number-below s at end =
    let a = name-byte-below s at end 0 in
    let b = name-byte-below s at end 1 in
    let c = name-byte-below s at end 2 in
    let d = name-byte-below s at end 3 in
    let e = name-byte-below s at end 4 in
    let f = name-byte-below s at end 5 in
    omega arith

number_positive : (s : List ℕ) (at end : ℕ) → 0 < name_byte s at end 0 → 0 < name_number s at end
unfolding name_number
number_positive s at end h = omega arith

codes_below : (s : List ℕ) (at end : ℕ) → Bytes (name_codes s at end)
codes_below s at end zero = name-byte-below s at end 0
codes_below s at end (suc zero) = name-byte-below s at end 1
codes_below s at end (suc (suc zero)) = name-byte-below s at end 2
codes_below s at end (suc (suc (suc zero))) = name-byte-below s at end 3
codes_below s at end (suc (suc (suc (suc zero)))) = name-byte-below s at end 4
codes_below s at end (suc (suc (suc (suc (suc zero))))) = name-byte-below s at end 5
codes_below s at end (suc (suc (suc (suc (suc (suc k)))))) = omega arith

-- names with one number have the same six codes: no character is left out
pub same_codes : (s : List ℕ) (at end : ℕ) (t : List ℕ) (from to : ℕ) → name_number s at end ≡ name_number t from to → name_codes s at end ≡ name_codes t from to
unfolding name_number
same_codes s at end t from to e = base256-same (name_codes s at end) (name_codes t from to) refl (codes_below s at end) (codes_below t from to) e

-- a name that starts has an end behind its start
end-behind : (s : List ℕ) (at : ℕ) → starts_at s at ≡ true → at < name_end 6 s at
end-behind s at e =
    let more : name_end 6 s at ≡ name_end 5 s (at + 1) = run_more (λ b. goes_on_name (class_of b)) 6 s at (omega arith) (start_goes_on (class_of (get_or s at 0)) e) in
    omega (arith, (run_bounds (λ b. goes_on_name (class_of b)) 5 s (at + 1)).0)

pub name-within : (s : List ℕ) (at : ℕ) → NameWithin s at (name_at s at)
unfolding name_at
name-within s at = go (starts_at s at) refl
  where
    up : (x : Bool) (end : ℕ) → at < end → end ≤ length s → NameWithin s at (pick x (Err end) (Ok ((name_number s at end), end)))
    up true end h l = (omega arith, λ i. l)
    up false end h l = (h, l, number-below s at end)

    go : (x : Bool) → starts_at s at ≡ x → NameWithin s at (pick x (name_up_to s at (name_end 6 s at)) (Err at))
    go true e = up (goes_on_at s (name_end 6 s at)) (name_end 6 s at) (end-behind s at e) (run_inside (λ b. goes_on_name (class_of b)) goes_on-zero 6 s at (end-behind s at e))
    go false e = (omega arith, λ l. l)

-- no name has the number 0
pub name_positive : (s : List ℕ) (at n next : ℕ) → name_at s at ≡ Ok (n, next) → 0 < n
unfolding name_at name_byte
name_positive s at n next e = go (starts_at s at) refl e
  where
    first : at < name_end 6 s at → is_accepted (class_of (get_or s at 0)) ≡ true → 0 < name_byte s at (name_end 6 s at) 0
    first h a = rw (add-zero, lt-ltb at (name_end 6 s at) h) (code_positive (get_or s at 0) a)

    up : (x : Bool) (end : ℕ) → 0 < name_byte s at end 0 → pick {X = Result (ℕ × ℕ) ℕ} x (Err end) (Ok ((name_number s at end), end)) ≡ Ok (n, next) → 0 < n
    up true end h q = clash (cc)
    up false end h q =
        let same : ◌≡◌ {A = ℕ × ℕ} (name_number s at end, end) (n, next) = cc in
        let f : n ≡ name_number s at end = sym (ap (λ x. x.0) same) in
        rw f (number_positive s at end h)

    go : (x : Bool) → starts_at s at ≡ x → pick {X = Result (ℕ × ℕ) ℕ} x (name_up_to s at (name_end 6 s at)) (Err at) ≡ Ok (n, next) → 0 < n
    go true f q =
        up (goes_on_at s (name_end 6 s at)) (name_end 6 s at)
        (first (end-behind s at f) (name-accepted (class_of (get_or s at 0)) (start_goes_on (class_of (get_or s at 0)) f)))
        q
    go false f q = clash (cc)

-- NUMBERS

-- digits end where they begin, or inside
abbrev pub DigitsWithin : List ℕ → ℕ → Digits → Type 0
DigitsWithin s at d = (at ≤ d.next) × (at < d.next → d.next ≤ length s) × (d.value ≤ 65535)

pub digits_within : (n base : ℕ) (s : List ℕ) (at v : ℕ) → base ≤ 16 → v ≤ 65535 → DigitsWithin s at (digits_from n base s at v)
unfolding digits_from
digits_within zero base s at v b h = (omega arith, λ l. absurd (omega arith), h)
digits_within (suc n) base s at v b h =
    go (digit_at base s at) refl (leb (with_digit base s at v) 65535) refl
    (λ l. digits_within n base s (at + 1) (with_digit base s at v) b l)
  where
    stopped : Digits
    stopped = record { value = v; next = at }

    on : (d : Digits) → at < length s → DigitsWithin s (at + 1) d → DigitsWithin s at d
    on d i w = (omega arith, λ l. elim (dec_le d.next (at + 1)) [ yes small ↦ omega arith | no large ↦ w.1 (omega arith) ], w.2)

    go : (x : Bool) → digit_at base s at ≡ x → (y : Bool) → leb (with_digit base s at v) 65535 ≡ y
        → (with_digit base s at v ≤ 65535 → DigitsWithin s (at + 1) (digits_from n base s (at + 1) (with_digit base s at v)))
        → DigitsWithin s at (pick x (pick y (digits_from n base s (at + 1) (with_digit base s at v)) (record { value = v; next = at })) (record { value = v; next = at }))
    go true e true f ih =
        on (digits_from n base s (at + 1) (with_digit base s at v))
        (inside-digit s at (omega (arith, ltb-true (digit_of (get_or s at 0)) base e)))
        (ih (leb-true _ _ f))
    go true e false f ih = (omega arith, λ l. absurd (omega arith), h)
    go false e y f ih = (omega arith, λ l. absurd (omega arith), h)

pub decimal_within : (s : List ℕ) (at : ℕ) → Within s at (decimal_at s at)
unfolding decimal_at
decimal_within s at = go (digits_from 5 10 s at 0) (digits_within 5 10 s at 0 (omega arith) (omega arith))
  where
    go : (d : Digits) → DigitsWithin s at d → Within s at (decimal_of s at d)
    go d w = at-end (eqb d.next at) refl (digit_at 10 s d.next)
      where
        at-end : (x : Bool) → eqb d.next at ≡ x → (y : Bool) → Within s at (pick x (Err at) (pick y (Err d.next) (Ok (Number d.value, d.next))))
        at-end true e y = (omega arith, λ l. l)
        at-end false e true = let n = eqb-false d.next at e in (w.0, λ l. w.1 (omega arith))
        at-end false e false = let n = eqb-false d.next at e in (omega arith, w.1 (omega arith), omega arith)

closed-within : (s : List ℕ) (at p v : ℕ) → at < p → (at ≤ length s → p ≤ length s) → v < 65536 → Within s at (closed_at s p v)
unfolding closed_at
closed-within s at p v l i h = go (stands "'" s p) refl
  where
    go : (x : Bool) → stands "'" s p ≡ x → Within s at (pick x (Ok (Number v, (p + 1))) (Err p))
    go true e = (omega arith, omega (arith, stands-inside 39 s p (omega arith) e), h)
    go false e = (omega arith, i)

numeral_within : (n base : ℕ) (s : List ℕ) (at : ℕ) → base ≤ 16 → at + 2 ≤ length s → Within s at (numeral_at n base s (at + 2))
unfolding numeral_at
numeral_within n base s at b i = go (digits_from n base s (at + 2) 0) (digits_within n base s (at + 2) 0 b (omega arith))
  where
    go : (d : Digits) → DigitsWithin s (at + 2) d → Within s at (numeral_of s (at + 2) d)
    go d w = at-end (eqb d.next (at + 2)) refl
      where
        at-end : (x : Bool) → eqb d.next (at + 2) ≡ x → Within s at (pick x (Err (at + 2)) (closed_at s d.next d.value))
        at-end true e = (omega arith, λ l. i)
        at-end false e =
            let n = eqb-false d.next (at + 2) e in
            closed-within s at d.next d.value (omega arith) (λ l. w.1 (omega arith)) (omega arith)

-- CHARACTERS

pub quoted_within : (s : List ℕ) (at : ℕ) → QuotedWithin s at (quoted_at s at)
unfolding quoted_at
quoted_within s at = go (stands "'" s at) refl (stands "'" s (at + 1)) refl (is_accepted (class_of (get_or s at 0))) refl
  where
    go : (x : Bool) → stands "'" s at ≡ x → (y : Bool) → stands "'" s (at + 1) ≡ y → (z : Bool) → is_accepted (class_of (get_or s at 0)) ≡ z
        → QuotedWithin s at (pick x (pick y (Ok (One (code_of (get_or s at 0)), (at + 2))) (Ok (Closed, (at + 1)))) (pick z (Ok (One (code_of (get_or s at 0)), (at + 1))) (Err at)))
    go true e true f z g = (omega arith, omega (arith, stands-inside 39 s (at + 1) (omega arith) f), code_below (get_or s at 0))
    go true e false f z g = (omega arith, omega (arith, stands-inside 39 s at (omega arith) e))
    go false e y f true g = (omega arith, omega (arith, inside-accepted s at g), code_below (get_or s at 0))
    go false e y f false g = refl

characters_within : (s : List ℕ) (at : ℕ) → at + 2 ≤ length s → Within s at (characters_at s at)
unfolding characters_at
characters_within s at i = first (quoted_at s (at + 2)) (quoted_within s (at + 2))
  where
    second : (a p : ℕ) → a < 256 → at < p → p ≤ length s → (q : Result (Quoted × ℕ) ℕ) → QuotedWithin s p q → Within s at (second_of s a q)
    second a p h l k (Ok (One b, next)) w = closed-within s at next (a * 256 + b) (omega arith) (λ m. w.1) (omega arith)
    second a p h l k (Ok (Closed, next)) w = (omega arith, w.1, omega arith)
    second a p h l k (Err place) w = (omega arith, λ m. omega arith)

    first : (q : Result (Quoted × ℕ) ℕ) → QuotedWithin s (at + 2) q → Within s at (first_of s q)
    first (Ok (One a, next)) w = second a next w.2 (omega arith) w.1 (quoted_at s next) (quoted_within s next)
    first (Ok (Closed, next)) w = (omega arith, λ m. w.1)
    first (Err place) w = (omega arith, λ m. omega arith)

-- TERMS

symbol_within : (s : List ℕ) (at : ℕ) → Within s at (symbol_at s at)
unfolding symbol_at
symbol_within s at = go (name_at s at) (name-within s at)
  where
    go : (n : Result (ℕ × ℕ) ℕ) → NameWithin s at n → Within s at (symbol_of n)
    go (Ok (n, next)) w = w
    go (Err place) w = w

lettered_within : (s : List ℕ) (at : ℕ) → Within s at (lettered_at s at)
unfolding lettered_at hex_at binary_at
lettered_within s at =
    go (stands "'" s (at + 1)) refl (stands "X" s at) (stands "B" s at) (stands "C" s at)
  where
    go : (q : Bool) → stands "'" s (at + 1) ≡ q → (x b c : Bool)
        → Within s at (pick q (pick x (numeral_at 4 16 s (at + 2)) (pick b (numeral_at 16 2 s (at + 2)) (pick c (characters_at s at) (symbol_at s at)))) (symbol_at s at))
    go true e true b c = numeral_within 4 16 s at (omega arith) (omega (arith, stands-inside 39 s (at + 1) (omega arith) e))
    go true e false true c = numeral_within 16 2 s at (omega arith) (omega (arith, stands-inside 39 s (at + 1) (omega arith) e))
    go true e false false true = characters_within s at (omega (arith, stands-inside 39 s (at + 1) (omega arith) e))
    go true e false false false = symbol_within s at
    go false e x b c = symbol_within s at

-- a good term ends behind its position and inside the columns; a bad one stops from there on, inside
pub term-within : (s : List ℕ) (at : ℕ) → Within s at (term_at s at)
unfolding term_at
term-within s at = go (class_of (get_or s at 0))
  where
    star : (x : Bool) → stands "*" s at ≡ x → Within s at (pick x (Ok (Here, (at + 1))) (Err at))
    star true e = (omega arith, omega (arith, stands-inside 42 s at (omega arith) e))
    star false e = (omega arith, λ l. l)

    go : (c : Class) → Within s at (term_of s at c)
    go Letter = lettered_within s at
    go Digit = decimal_within s at
    go Sign = star (stands "*" s at) refl
    go Blank = (omega arith, λ l. l)
    go Refused = (omega arith, λ l. l)
