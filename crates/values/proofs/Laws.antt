-- Laws on tests, words, parts of a list and stores in a row.
use Prim.Native.Nat.{ℕ, suc, ◌+◌, ◌-◌, ◌*◌, ◌≤◌, ◌<◌}
use mathlib.Core.List.{List, [], ◌∷◌, ◌++◌, append-nil, append_assoc}
use mathlib.Core.Path.{◌≡◌, refl, sym, ap, ◌∙◌}
use mathlib.Core.Bool.{Bool, true, false}
use native.Mathlib.Nat.{add-zero, sub-zero, zero-add, suc-add, lt_of_not-le}
use native.Mathlib.Numerals.{add-one}
use native.Mathlib.Decide.{dec_le}
use native.Mathlib.Omega.{arith}
use borrow.Rule.Slice.PartMut.{put_mid}
use lib.ListN.{length, get_or, take, drop, set, length-append, length-take, length-drop, length-set, drop_of_length-le}
use lib.Seq.{drop-cons, drop-drop, sets, sets-eq, get_or-take, get_or-drop, get_or-append-add, drop-append-add, set-append_left, length-take-le}
use Rattle.std.specs.List.{list_all, fold}
use Rattle.std.specs.Prelude.{◌&&◌}
use Rattle.values.specs.Tests.{both}
use Rattle.values.specs.Words.{word, long, base256, base256_on, four_bytes, part}

-- two cases of an enum are never equal: where `cc` finds that they are, anything follows by `clash (cc)`
pub clash {ℓ} : {X : Type ℓ} → ◌≡◌ {A = ℕ} 0 1 → X
clash e = absurd (omega arith)

-- TESTS

pub both_false : (b : Bool) → both b false ≡ false
both_false true = refl
both_false false = refl

pub both_true : (a b : Bool) → both a b ≡ true → (a ≡ true) × (b ≡ true)
both_true true b e = (refl, e)
both_true false b e = clash (cc)

-- a test that fails whenever b < a: where it passes, a ≤ b
pub held : {r : Bool} (a b : ℕ) → (b < a → r ≡ false) → r ≡ true → a ≤ b
held a b n e =
    elim (dec_le a b) [ yes h ↦ h | no h ↦ let q = n (lt_of_not-le h) in clash (cc) ]

-- a test of each item, with what was told before them
pub all_fold : {A : Type 0} (test : A → Bool) (s : List A) (before : Bool) → fold (λ told b. told && test b) before s ≡ (before && list_all test s)
all_fold test [] true = refl
all_fold test [] false = refl
all_fold test (b ∷ bs) true = all_fold test bs (test b)
all_fold test (b ∷ bs) false = all_fold test bs false

-- WORDS

abbrev pub Bytes : List ℕ → Type 0
Bytes a = (k : ℕ) → get_or a k 0 < 256

pub word-shift : (xs ys : List ℕ) (n : ℕ) → word (xs ++ ys) (length xs + n) ≡ word ys n
unfolding word
word-shift xs ys n =
    let e : length xs + n + 1 ≡ length xs + (n + 1) = omega arith in
    rw (get_or-append-add xs ys n 0, e, get_or-append-add xs ys (n + 1) 0)

-- PARTS

pub drop_turn : (s : List ℕ) (i : ℕ) → i < length s → drop i s ≡ get_or s i 0 ∷ drop (i + 1) s
drop_turn s i h = rw (add-one, drop-cons s i 0 h)

pub part_length : (s : List ℕ) (from n : ℕ) → from + n ≤ length s → length (part s from n) ≡ n
part_length s from n h = simp (length-take, length-drop) (omega arith)

-- a part as it is lent, by its start and its end
pub part_between : (s : List ℕ) (from n : ℕ) → take (from + n - from) (drop from s) ≡ part s from n
part_between s from n = let e : from + n - from ≡ n = omega arith in rw e

pub between_length : (s : List ℕ) (from n : ℕ) → from + n ≤ length s → length (take (from + n - from) (drop from s)) ≡ n
between_length s from n h = rw (part_between s from n) (part_length s from n h)

pub part_cons : (s : List ℕ) (from n i : ℕ) → i < n → from + n ≤ length s
    → part s (from + i) (n - i) ≡ get_or s (from + i) 0 ∷ part s (from + (i + 1)) (n - (i + 1))
part_cons s from n i h k =
    let e : n - i ≡ suc (n - (i + 1)) = omega arith in
    let f : from + (i + 1) ≡ suc (from + i) = omega arith in
    let l : from + i < length s = omega arith in
    rw (e, f, drop-cons s (from + i) 0 l)

pub part-start : (s : List ℕ) (from n : ℕ) → part s (from + 0) (n - 0) ≡ part s from n
part-start s from n = rw (add-zero, sub-zero)

pub get_or_part : (s : List ℕ) (from n i : ℕ) → i < n → get_or (part s from n) i 0 ≡ get_or s (from + i) 0
get_or_part s from n i h = rw (get_or-take n (drop from s) i 0, get_or-drop)

pub word-part : (s : List ℕ) (from n i : ℕ) → i + 2 ≤ n → word (part s from n) i ≡ word s (from + i)
unfolding word
word-part s from n i h =
    let a : i < n = omega arith in
    let b : i + 1 < n = omega arith in
    let e : from + i + 1 ≡ from + (i + 1) = omega arith in
    rw (get_or_part s from n i a, get_or_part s from n (i + 1) b, e)

-- behind the first list a part is one of the second
pub part-shift : (xs ys : List ℕ) (from n : ℕ) → part (xs ++ ys) (length xs + from) n ≡ part ys from n
part-shift xs ys from n = rw (drop-append-add xs ys from)

-- equally many bytes that make the same number are the same
base256-same-on : (m n : ℕ) (a b : List ℕ) → length a ≡ length b → Bytes a → Bytes b → base256_on m a ≡ base256_on n b → (m ≡ n) × (a ≡ b)
base256-same-on m n [] [] l s t e = (e, refl)
base256-same-on m n (x ∷ a) [] l s t e = absurd (omega arith)
base256-same-on m n [] (y ∷ b) l s t e = absurd (omega arith)
base256-same-on m n (x ∷ a) (y ∷ b) l s t e =
    let (h, same) = base256-same-on (m * 256 + x) (n * 256 + y) a b (omega arith) (λ k. s (suc k)) (λ k. t (suc k)) e in
    let first : x ≡ y = omega (arith, s 0, t 0) in
    (omega (arith, s 0, t 0), cc)

pub base256-same : (a b : List ℕ) → length a ≡ length b → Bytes a → Bytes b → base256 a ≡ base256 b → a ≡ b
base256-same [] [] l s t e = refl
base256-same (x ∷ a) [] l s t e = absurd (omega arith)
base256-same [] (y ∷ b) l s t e = absurd (omega arith)
base256-same (x ∷ a) (y ∷ b) l s t e =
    let (first, same) = base256-same-on x y a b (omega arith) (λ k. s (suc k)) (λ k. t (suc k)) e in cc

-- a number of four bytes is given back
pub long_four : (n : ℕ) (s : List ℕ) → n < 4294967296 → long (four_bytes n ++ s) 0 ≡ n
unfolding long word
long_four n s h = omega arith

-- STORES IN A ROW

-- a turn of a loop that stores a run: the run that is left, from the place it has got to
pub sets_turn : (m : List ℕ) (at i : ℕ) (vs : List ℕ) → i < length vs
    → sets m (at + i) (drop i vs) ≡ sets (set m (at + i) (get_or vs i 0)) (at + (i + 1)) (drop (i + 1) vs)
sets_turn m at i vs h =
    let e : at + (i + 1) ≡ suc (at + i) = omega arith in
    rw (drop-cons vs i 0 h, e, add-one)

-- nothing of the run is left
pub sets-done : (m : List ℕ) (at : ℕ) (vs : List ℕ) (i : ℕ) → length vs ≤ i → sets m at (drop i vs) ≡ m
sets-done m at vs i h = rw (drop_of_length-le vs h)

-- a run copied over the part of its length is that run stored
pub sets_mid : (m : List ℕ) (at : ℕ) (vs : List ℕ) → at + length vs ≤ length m → put_mid at (at + length vs - at) m vs ≡ sets m at vs
sets_mid m at vs h =
    let e : at + length vs - at ≡ length vs = omega arith in
    rw (sets-eq vs m at h, e, drop-drop, append_assoc)

-- one run after another is the two stored in a row
pub sets_append : (m : List ℕ) (at : ℕ) (us vs : List ℕ) → sets m at (us ++ vs) ≡ sets (sets m at us) (at + length us) vs
sets_append m at [] vs = rw add-zero
sets_append m at (u ∷ us) vs =
    let e : at + suc (length us) ≡ suc at + length us = omega arith in
    rw e (sets_append (set m at u) (suc at) us vs)

-- one write after another, the second from where the first ended
pub then : (m m₁ m₂ : List ℕ) (at p : ℕ) (us vs : List ℕ) → m₁ ≡ sets m at us → p ≡ at + length us → m₂ ≡ sets m₁ p vs → m₂ ≡ sets m at (us ++ vs)
then m m₁ m₂ at p us vs a b c = c ∙ ap (λ l. sets l p vs) a ∙ ap (λ n. sets (sets m at us) n vs) b ∙ sym (sets_append m at us vs)

set_append_add : (xs ys : List ℕ) (i v : ℕ) → set (xs ++ ys) (length xs + i) v ≡ xs ++ set ys i v
set_append_add [] ys i v = rw (zero-add i)
set_append_add (x ∷ xs) ys i v = rw (suc-add (length xs) i) (ap (λ l. x ∷ l) (set_append_add xs ys i v))

-- a store into a run that was stored is a store into the run
set-sets : (m : List ℕ) (to : ℕ) (vs : List ℕ) (i v : ℕ) → to + length vs ≤ length m → i < length vs → set (sets m to vs) (to + i) v ≡ sets m to (set vs i v)
set-sets m to vs i v h k =
    let t = length-take-le to m (omega arith) in
    let l = length-append (take to m) vs in
    let at : to + i ≡ length (take to m) + i = omega arith in
    let inside : to + i < length (take to m ++ vs) = omega arith in
    let e = length-set vs i v in
    rw (sets-eq vs m to h, set-append_left (take to m ++ vs) (drop (to + length vs) m) (to + i) v inside, at, set_append_add (take to m) vs i v)
    (sym (rw (sets-eq (set vs i v) m to (omega arith), e)))

pub sets-sets : (m : List ℕ) (to : ℕ) (vs : List ℕ) (i : ℕ) (ws : List ℕ) → to + length vs ≤ length m → i + length ws ≤ length vs
    → sets (sets m to vs) (to + i) ws ≡ sets m to (sets vs i ws)
sets-sets m to vs i [] h k = refl
sets-sets m to vs i (w ∷ ws) h k =
    let s : suc (to + i) ≡ to + suc i = omega arith in
    let e = length-set vs i w in
    rw (set-sets m to vs i w h (omega arith), s) (sets-sets m to (set vs i w) (suc i) ws (omega arith) (omega arith))

sets-whole : (vs ws : List ℕ) → length ws ≡ length vs → sets vs 0 ws ≡ ws
sets-whole vs ws e = rw (sets-eq ws vs 0 (omega arith), zero-add, drop_of_length-le vs {i = length ws} (omega arith)) (append-nil ws)

-- a run over one of the same length takes its place
pub sets_over : (m : List ℕ) (to : ℕ) (vs ws : List ℕ) → to + length vs ≤ length m → length ws ≡ length vs → sets (sets m to vs) to ws ≡ sets m to ws
sets_over m to vs ws h e =
    ap (λ n. sets (sets m to vs) n ws) (sym (add-zero to)) ∙ sets-sets m to vs 0 ws h (omega arith) ∙ ap (λ l. sets m to l) (sets-whole vs ws e)
