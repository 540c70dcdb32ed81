-- The table and the classes are those of R2.2 and R2.3, by one computed test over all 256 bytes; and what readers of columns cite.
use Prim.Native.Nat.{ℕ, zero, suc, ◌+◌, ◌≤◌, ◌<◌}
use Prim.Native.String.{String, [] as none, ◌∷◌ as ◌then◌}
use mathlib.Core.List.{List, [], ◌∷◌}
use mathlib.Core.Path.{◌≡◌, refl, sym, ap, ◌∙◌}
use mathlib.Core.Bool.{Bool, true, false}
use native.Mathlib.Decide.{dec_le}
use native.Mathlib.Omega.{arith}
use lib.Dec.{eqb, ltb}
use lib.ListN.{length, get_or, get_or-eq_default}
use borrow.Author.Tests.{eqb-true, eq-eqb, ne_eqb, ltb-true, le-leb, lt-leb}
use Rattle.values.specs.Tests.{pick, both}
use Rattle.letters.specs.Text.{byte, is_one_of, is_from_to}
use Rattle.letters.specs.Letters.{class_of, starts_name, goes_on_name, is_accepted, coded_from, listed, code_in, code_of, digit_of}
use Rattle.letters.specs.Table.{table, place_of}
use Rattle.letters.specs.declared.Class.{Class}
use Rattle.letters.specs.declared.Class.TheVariants.{Letter, Digit, Sign, Blank, Refused}
use Rattle.letters.specs.declared.Pair.{Pair}
use Rattle.letters.proofs.Every.{every, at}
use Rattle.values.proofs.Laws.{both_true, clash}

-- CLASSES

rank : Class → ℕ
rank Letter = 0
rank Digit = 1
rank Sign = 2
rank Blank = 3
rank Refused = 4

ranked : ℕ → Class
ranked zero = Letter
ranked (suc zero) = Digit
ranked (suc (suc zero)) = Sign
ranked (suc (suc (suc zero))) = Blank
ranked (suc (suc (suc (suc n)))) = Refused

back : (c : Class) → ranked (rank c) ≡ c
unfolding rank ranked
back Letter = refl
back Digit = refl
back Sign = refl
back Blank = refl
back Refused = refl

is_of : Class → ℕ → Bool
is_of c b = eqb (rank (class_of b)) (rank c)

-- the n bytes from a on, each found by the checker to be of a class
unfoldable pub all_of : Class → ℕ → ℕ → Bool
unfolding is_of rank
all_of c a n = every (is_of c) a n

pub class_in : (c : Class) (a n b : ℕ) → all_of c a n ≡ true → a ≤ b → b < a + n → class_of b ≡ c
unfolding is_of all_of
class_in c a n b e l h =
    sym (back (class_of b)) ∙ ap ranked (eqb-true _ _ (at (is_of c) n a b e l h)) ∙ back c

-- THE TABLE

-- how often a list of pairs has a byte
unfoldable pub times : List Pair → ℕ → ℕ
times [] b = 0
times (p ∷ ps) b = pick (eqb p.0 b) 1 0 + times ps b

-- the pair at a byte's place, and the code that is read off it
abbrev pub pair_at : ℕ → Pair
pair_at i = get_or table i (record { 0 = 0; 1 = 0 })

abbrev pub read_code : ℕ → ℕ
read_code b = pick (eqb (pair_at (place_of b)).0 b) (pair_at (place_of b)).1 0

-- 1 for an accepted byte, 0 for any other
abbrev pub once : ℕ → ℕ
once b = pick (is_accepted (class_of b)) 1 0

-- a byte is accepted exactly where it has a code
abbrev pub agrees : ℕ → Bool
agrees b = pick (is_accepted (class_of b)) (ltb 0 (code_of b)) (eqb (code_of b) 0)

-- R2.3: each accepted byte stands in the table once and no other does, as in the list; its code is that of the list, wherever it is looked for
unfoldable pub right : ℕ → Bool
right b =
    both (eqb (times table b) (once b))
    (both (eqb (times listed b) (once b))
    (both (eqb (code_in table b) (code_of b)) (both (eqb (read_code b) (code_of b)) (agrees b))))

right_everywhere : every right 0 256 ≡ true
unfolding every right times table listed coded_from code_in code_of place_of class_of is_one_of is_from_to
right_everywhere = refl

module _ (b : ℕ) (small : b < 256) where
  all : right b ≡ true
  all = at right 256 0 b right_everywhere (omega arith) (omega arith)

  pub table-once : times table b ≡ once b
  unfolding right
  table-once = eqb-true _ _ (both_true (eqb (times table b) (once b)) _ all).0

  pub listed-once : times listed b ≡ once b
  unfolding right
  listed-once =
      eqb-true _ _ (both_true (eqb (times listed b) (once b)) _ (both_true (eqb (times table b) (once b)) _ all).1).0

  rest : both (eqb (code_in table b) (code_of b)) (both (eqb (read_code b) (code_of b)) (agrees b)) ≡ true
  unfolding right
  rest = (both_true (eqb (times listed b) (once b)) _ (both_true (eqb (times table b) (once b)) _ all).1).1

  pub table-code : code_in table b ≡ code_of b
  table-code = eqb-true _ _ (both_true (eqb (code_in table b) (code_of b)) _ rest).0

  read-code : read_code b ≡ code_of b
  read-code =
      eqb-true _ _ (both_true (eqb (read_code b) (code_of b)) (agrees b) (both_true (eqb (code_in table b) (code_of b)) _ rest).1).0

  pub class_agrees : agrees b ≡ true
  class_agrees = (both_true (eqb (read_code b) (code_of b)) (agrees b) (both_true (eqb (code_in table b) (code_of b)) _ rest).1).1

  -- the pair at a byte's place has the byte: its code is the byte's; or it has another byte, and the byte has no code
  pub code-there : (i : ℕ) → i ≡ place_of b → (pair_at i).0 ≡ b → (pair_at i).1 ≡ code_of b
  code-there i e t = rw (sym e, eq-eqb _ _ t) at read-code

  pub code-none : (i : ℕ) → i ≡ place_of b → ((pair_at i).0 ≡ b → ⊥) → 0 ≡ code_of b
  code-none i e t = rw (sym e, ne_eqb _ _ t) at read-code

-- WHAT READERS OF COLUMNS CITE

-- past the end stands 0, which is refused: a byte that is something is inside
pub class_zero : class_of 0 ≡ Refused
unfolding class_of is_one_of is_from_to
class_zero = refl

pub inside : (s : List ℕ) (i : ℕ) → (get_or s i 0 ≡ 0 → ⊥) → i < length s
inside s i n = elim (dec_le (length s) i) [ yes past ↦ absurd (n (get_or-eq_default s 0 past)) | no within ↦ omega arith ]

pub inside-accepted : (s : List ℕ) (i : ℕ) → is_accepted (class_of (get_or s i 0)) ≡ true → i < length s
inside-accepted s i e =
    inside s i
    (λ z. let f : is_accepted Refused ≡ true = ap is_accepted (sym (ap class_of z ∙ class_zero)) ∙ e in clash (cc))

pub inside-digit : (s : List ℕ) (i : ℕ) → digit_of (get_or s i 0) < 16 → i < length s
unfolding digit_of is_from_to
inside-digit s i h = inside s i (λ z. let f : digit_of (get_or s i 0) ≡ 16 = ap digit_of z in omega arith)

-- a character that goes on a name, or starts one, is accepted
pub name-accepted : (c : Class) → goes_on_name c ≡ true → is_accepted c ≡ true
name-accepted Letter e = refl
name-accepted Digit e = refl
name-accepted Sign e = refl
name-accepted Blank e = refl
name-accepted Refused e = e

pub start_goes_on : (c : Class) → starts_name c ≡ true → goes_on_name c ≡ true
start_goes_on Letter e = refl
start_goes_on Digit e = refl
start_goes_on Sign e = e
start_goes_on Blank e = e
start_goes_on Refused e = e

-- every code is a byte
below_all : ℕ → List Pair → Bool
below_all n [] = true
below_all n (p ∷ ps) = both (ltb p.1 n) (below_all n ps)

code_in_below : (n : ℕ) (ps : List Pair) (b : ℕ) → 0 < n → below_all n ps ≡ true → code_in ps b < n
unfolding below_all code_in
code_in_below n [] b z e = z
code_in_below n (p ∷ ps) b z e =
    go (eqb p.0 b) (ltb-true p.1 n (both_true (ltb p.1 n) (below_all n ps) e).0)
    (code_in_below n ps b z (both_true (ltb p.1 n) (below_all n ps) e).1)
  where
    go : (x : Bool) → p.1 < n → code_in ps b < n → pick x p.1 (code_in ps b) < n
    go true h k = h
    go false h k = k

pub code_below : (b : ℕ) → code_of b < 256
unfolding code_of below_all listed coded_from
code_below b = code_in_below 256 listed b (omega arith) refl

-- a test on what a call returned, as a test on what the definition reads
pub is_byte : {r b k : ℕ} → r ≡ b → r ≡ k → eqb b k ≡ true
is_byte e t = eq-eqb _ _ (sym e ∙ t)

pub no_byte : {r b k : ℕ} → r ≡ b → (r ≡ k → ⊥) → eqb b k ≡ false
no_byte e t = ne_eqb _ _ (λ q. t (e ∙ q))

-- ACCEPTED BYTES HAVE A CODE

-- behind all characters of a text
text-below : ℕ → String → Bool
text-below n none = true
text-below n (c then s) = both (ltb (byte c) n) (text-below n s)

past_text : (n : ℕ) (s : String) (b : ℕ) → text-below n s ≡ true → n ≤ b → is_one_of s b ≡ false
unfolding text-below is_one_of
past_text n none b e h = refl
past_text n (c then s) b e h =
    let below : byte c < n = ltb-true (byte c) n (both_true (ltb (byte c) n) (text-below n s) e).0 in
    rw (ne_eqb b (byte c) (λ q. omega arith)) (past_text n s b (both_true (ltb (byte c) n) (text-below n s) e).1 h)

-- behind | nothing is accepted
pub class_past : (b : ℕ) → 125 ≤ b → class_of b ≡ Refused
unfolding class_of is_from_to text-below
class_past b h =
    rw
    (le-leb 65 b (omega arith), lt-leb b 90 (omega arith), past_text 125 "$#@" b refl h, le-leb 48 b (omega arith), lt-leb b 57 (omega arith), ne_eqb b 32 (λ e. omega arith), past_text 125 ".<(+|&!*);-/,%_>?:'=\"" b refl h)

pub code_positive : (b : ℕ) → is_accepted (class_of b) ≡ true → 0 < code_of b
code_positive b e =
    elim (dec_le 125 b) [
      | yes past ↦ let f : is_accepted Refused ≡ true = ap is_accepted (sym (class_past b past)) ∙ e in clash (cc)
      | no within ↦ ltb-true 0 (code_of b) (rw e at (class_agrees b (omega arith)))
    ]
