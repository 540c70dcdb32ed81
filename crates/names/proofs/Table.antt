-- Laws of the table: its records as a list, the place of a number, a record more, zeroing.
use Rattle.std.specs.Prelude.{Some, None}
use Prim.Native.Nat.{ℕ, zero, suc, ◌+◌, ◌-◌, ◌*◌, ◌/◌, ◌%◌, ◌≤◌, ◌<◌, ◌^◌}
use mathlib.Core.List.{List, [], ◌∷◌, ◌++◌, append_assoc}
use mathlib.Core.Bool.{true, false}
use mathlib.Core.Path.{◌≡◌, refl, sym, ap, ◌∙◌}
use native.Mathlib.Nat.{add-zero, not-suc-le-zero, lt_of_not-le}
use native.Mathlib.Decide.{dec_le}
use native.Mathlib.Omega.{arith}
use lib.ListN.{length, get_or, take, drop, set, length-append, get_or-append, take-append-drop}
use lib.Seq.{sets, sets-eq, take-append-le, take-take, drop_at, take-suc, drop-cons, drop-drop, set_at, append_snoc, get_or-take, get_or-append-add, length-take-le}
use borrow.Author.Fill.{fill_more}
use lib.Dec.{ltb}
use borrow.Author.Tests.{lt-ltb, ltb-true, ltb-false}
use Rattle.std.specs.Simd.{first_chunks}
use Rattle.std.specs.List.{AllWithin}
use Rattle.std.specs.List.Sorted.{IsPartitionedBy, IsPartitionPoint}
use Rattle.values.specs.Words.{word, part}
use Rattle.values.specs.declared.Value.{Value}
use Rattle.values.specs.declared.Value.TheVariants.{Absolute, Relocatable}
use Rattle.values.specs.Values.{amount_of}
use Rattle.values.proofs.Laws.{part_length, get_or_part}
use Rattle.names.specs.declared.Name.{Name}
use Rattle.names.specs.Names.{meaning}
use Rattle.names.specs.Names.{find, defined, ascending}
use Rattle.names.specs.Table.{value_of, kind_of, number_at, name_at, meaning_at, names_from, names_in, zeroed}
use Rattle.names.specs.Steps.{below, shifted, name_bytes}
use Rattle.names.proofs.Names.{below_le, below_up, below_down, find_met, find-missed, defined-place}

-- RECORDS

names-count : (n : ℕ) (t : List ℕ) (p : ℕ) → length (names_from n t p) ≡ n
unfolding names_from
names-count zero t p = refl
names-count (suc n) t p = ap suc (names-count n t (p + 16))

names_nth : (n : ℕ) (t : List ℕ) (p i : ℕ) (z : Name) → i < n → get_or (names_from n t p) i z ≡ name_at t (p + 16 * i)
unfolding names_from
names_nth zero t p i z h = absurd (not-suc-le-zero h)
names_nth (suc n) t p zero z h = rw add-zero
names_nth (suc n) t p (suc i) z h =
    let e : p + 16 + 16 * i ≡ p + 16 * suc i = omega arith in names_nth n t (p + 16) i z (omega arith) ∙ ap (name_at t) e

names-take : (i n : ℕ) (t : List ℕ) (p : ℕ) → i ≤ n → take i (names_from n t p) ≡ names_from i t p
unfolding names_from
names-take zero n t p h = refl
names-take (suc i) zero t p h = absurd (not-suc-le-zero h)
names-take (suc i) (suc n) t p h = ap (λ l. name_at t p ∷ l) (names-take i n t (p + 16) (omega arith))

names-drop : (i n : ℕ) (t : List ℕ) (p : ℕ) → i ≤ n → drop i (names_from n t p) ≡ names_from (n - i) t (p + 16 * i)
unfolding names_from
names-drop zero n t p h = let e : n - 0 ≡ n = omega arith in rw (e, add-zero)
names-drop (suc i) zero t p h = absurd (not-suc-le-zero h)
names-drop (suc i) (suc n) t p h =
    let e : suc n - suc i ≡ n - i = omega arith in
    let f : p + 16 * suc i ≡ p + 16 + 16 * i = omega arith in
    rw (e, f) (names-drop i n t (p + 16) (omega arith))

names-split : (i m : ℕ) (t : List ℕ) (p : ℕ) → names_from (i + m) t p ≡ names_from i t p ++ names_from m t (p + 16 * i)
unfolding names_from
names-split zero m t p = let e : 0 + m ≡ m = omega arith in rw (e, add-zero)
names-split (suc i) m t p =
    let e : suc i + m ≡ suc (i + m) = omega arith in
    let f : p + 16 * suc i ≡ p + 16 + 16 * i = omega arith in
    rw (e, f) (ap (λ l. name_at t p ∷ l) (names-split i m t (p + 16)))

-- as many names as records
pub names-length : (n : ℕ) (t : List ℕ) → length (names_in n t) ≡ n
unfolding names_in
names-length n t = names-count n t 0

-- a table with no record holds no name
pub names-none : (t : List ℕ) → names_in 0 t ≡ []
unfolding names_in names_from
names-none t = refl

names_at : (n : ℕ) (t : List ℕ) (i : ℕ) (z : Name) → i < n → get_or (names_in n t) i z ≡ name_at t (16 * i)
unfolding names_in
names_at n t i z h = let e : 0 + 16 * i ≡ 16 * i = omega arith in names_nth n t 0 i z h ∙ ap (name_at t) e

-- THE PLACE OF A NUMBER

module _ (n : ℕ) (t : List ℕ) (k : ℕ) where
  pub place_le : below k (names_in n t) ≤ n
  place_le = let l = below_le k (names_in n t) in rw (names-length n t) at l

  pub place_up : (i : ℕ) → ascending (names_in n t) ≡ true → i < n → number_at t (16 * i) < k → i < below k (names_in n t)
  place_up i a h l =
      let z = name_at t 0 in
      below_up k (names_in n t) i z a (rw (names_at n t i z h) l) (rw (names-length n t) h)

  pub place_down : (i : ℕ) → i < n → k ≤ number_at t (16 * i) → below k (names_in n t) ≤ i
  place_down i h l =
      let z = name_at t 0 in
      below_down k (names_in n t) i z (rw (names_at n t i z h) l) (rw (names-length n t) h)

  pub place_met : (i : ℕ) → i ≡ below k (names_in n t) → i < n → number_at t (16 * i) ≡ k → find (names_in n t) k ≡ Some (meaning_at t (16 * i))
  place_met i e h l =
      let z = name_at t 0 in
      let g : below k (names_in n t) < n = omega arith in
      let w : get_or (names_in n t) (below k (names_in n t)) z ≡ name_at t (16 * i) = names_at n t (below k (names_in n t)) z g ∙ ap (λ j. name_at t (16 * j)) (sym e) in
      find_met k (names_in n t) z (rw (names-length n t) g) (ap (λ (x : Name). x.number) w ∙ l) ∙ ap (λ (x : Name). Some (meaning x.value x.length)) w

  pub place-missed : (i : ℕ) → ascending (names_in n t) ≡ true → i ≡ below k (names_in n t) → (i < n → number_at t (16 * i) ≡ k → ⊥) → find (names_in n t) k ≡ None
  place-missed i a e m =
      let z = name_at t 0 in
      find-missed k (names_in n t) z a
      (λ l q. let g : i < n = omega (arith, names-length n t) in m g (sym (ap (λ (x : Name). x.number) (names_at n t i z g)) ∙ ap (λ j. (get_or (names_in n t) j z).number) e ∙ q))

-- THE RECORDS AS ARRAYS OF 16 BYTES

arrays-count : (n : ℕ) (t : List ℕ) → length (first_chunks 16 n t) ≡ n
arrays-count zero t = refl
arrays-count (suc n) t = ap suc (arrays-count n (drop 16 t))

arrays_at : (n : ℕ) (t : List ℕ) (i : ℕ) (z : List ℕ) → i < n → get_or (first_chunks 16 n t) i z ≡ part t (16 * i) 16
arrays_at zero t i z h = absurd (not-suc-le-zero h)
arrays_at (suc n) t zero z h = refl
arrays_at (suc n) t (suc i) z h =
    let e : 16 + 16 * i ≡ 16 * suc i = omega arith in
    arrays_at n (drop 16 t) i z (omega arith) ∙ rw (drop-drop, e)

number_of_array : (t : List ℕ) (at : ℕ) → number_at (part t at 16) 0 ≡ number_at t at
unfolding number_at
number_of_array t at =
    simp
    (get_or_part t at 16 1 (omega arith), get_or_part t at 16 2 (omega arith), get_or_part t at 16 3 (omega arith), get_or_part t at 16 4 (omega arith), get_or_part t at 16 5 (omega arith), get_or_part t at 16 6 (omega arith))

-- rs are all the arrays of a table that holds n records
module _ (n : ℕ) (t : List ℕ) (k : ℕ) (rs : List (List ℕ)) (are : rs ≡ first_chunks 16 (length t / 16) t) (fits : 16 * n ≤ length t) (rising : ascending (names_in n t) ≡ true) where
  records-count : length (take n rs) ≡ n
  records-count = let c = ap length are ∙ arrays-count (length t / 16) t in length-take-le n rs (omega arith)

  records_at : (i : ℕ) (z : List ℕ) → i < n → number_at (get_or (take n rs) i z) 0 ≡ number_at t (16 * i)
  records_at i z h =
      rw (get_or-take n rs i z h, are, arrays_at (length t / 16) t i z (omega arith)) (number_of_array t (16 * i))

  pub records-parted : IsPartitionedBy (λ r. ltb (number_at r 0) k) (take n rs)
  records-parted i j z l h e =
      let m : j < n = omega (arith, records-count) in
      let u = place_up n t k j rising m (rw (records_at j z m) at (ltb-true _ _ e)) in
      lt-ltb _ _ (rw (records_at i z (omega arith)) (lt_of_not-le (λ q. let d = place_down n t k i (omega arith) q in absurd (omega arith))))

  pub place-found : (i : ℕ) → i ≤ length (take n rs) → IsPartitionPoint (λ r. ltb (number_at r 0) k ≡ true) (λ r. ltb (number_at r 0) k ≡ false) (take n rs) i
      → (i ≡ below k (names_in n t)) × (i ≤ n)
  place-found i h (low, high) =
      let m : i ≤ n = omega (arith, records-count) in
      let a = lower i low m in
      let b = upper m in
      (omega arith, m)
    where
      lower : (j : ℕ) → AllWithin (λ r. ltb (number_at r 0) k ≡ true) (take n rs) 0 j → j ≤ n → j ≤ below k (names_in n t)
      lower zero f m = omega arith
      lower (suc j) f m =
          place_up n t k j rising m (rw (records_at j [] m) at (ltb-true _ _ (f j [] (omega arith) (omega arith))))

      upper : i ≤ n → below k (names_in n t) ≤ i
      upper m =
          elim (dec_le n i) [
            | yes h ↦ let l = place_le n t k in omega arith
            | no h ↦
                let s = lt_of_not-le h in
                place_down n t k i s (rw (records_at i [] s) at (ltb-false _ _ (high i [] (omega arith) (omega (arith, records-count)))))
          ]

-- A RECORD MORE

-- equal bytes are equal records
same_name : (t u : List ℕ) (p q : ℕ) → ((k : ℕ) → k < 16 → get_or u (q + k) 0 ≡ get_or t (p + k) 0) → name_at u q ≡ name_at t p
unfolding number_at word
same_name t u p q h =
    let e : q + 8 + 1 ≡ q + 9 = omega arith in
    let f : p + 8 + 1 ≡ p + 9 = omega arith in
    let g : q + 10 + 1 ≡ q + 11 = omega arith in
    let i : p + 10 + 1 ≡ p + 11 = omega arith in
    simp
    (e, f, g, i, h 1 (omega arith), h 2 (omega arith), h 3 (omega arith), h 4 (omega arith), h 5 (omega arith), h 6 (omega arith), h 7 (omega arith), h 8 (omega arith), h 9 (omega arith), h 10 (omega arith), h 11 (omega arith))

same_names : (n : ℕ) (t u : List ℕ) (p q : ℕ) → ((k : ℕ) → k < 16 * n → get_or u (q + k) 0 ≡ get_or t (p + k) 0) → names_from n u q ≡ names_from n t p
unfolding names_from
same_names zero t u p q h = refl
same_names (suc n) t u p q h =
    rw (same_name t u p q (λ k l. h k (omega arith)))
    (ap (λ l. name_at t p ∷ l)
    (same_names n t u (p + 16) (q + 16)
    (λ k l. let e : q + 16 + k ≡ q + (16 + k) = omega arith in let f : p + 16 + k ≡ p + (16 + k) = omega arith in rw (e, f) (h (16 + k) (omega arith)))))

-- a record stored where the records above it have gone up
module _ (t : List ℕ) (from to : ℕ) (rec : List ℕ) (long : length rec ≡ 16) (order : from ≤ to) (fits : to + 16 ≤ length t) where
  abbrev stored : List ℕ
  stored = take from t ++ (rec ++ (part t from (to - from) ++ drop (to + 16) t))

  stored_is : sets (shifted from to t) from rec ≡ stored
  unfolding shifted
  stored_is =
      let a = length-take-le (from + 16) t (omega arith) in
      let r = part t from (to - from) ++ drop (to + 16) t in
      let l : length (take (from + 16) t ++ r) ≡ from + 16 + length r = rw (length-append, a) in
      let e = sets-eq rec (take (from + 16) t ++ r) from (omega arith) in
      let d = drop_at (take (from + 16) t) r (from + 16) a in
      let w = take-append-le from (take (from + 16) t) r (omega arith) ∙ take-take from (from + 16) t (omega arith) in
      e ∙ rw (long, d, w, append_assoc)

  stored-front : (k : ℕ) → k < from → get_or stored k 0 ≡ get_or t k 0
  stored-front k h =
      let a = length-take-le from t (omega arith) in
      get_or-append (take from t) (rec ++ (part t from (to - from) ++ drop (to + 16) t)) 0 k (omega arith) ∙ get_or-take from t k 0 h

  stored-behind : (k : ℕ) → get_or stored (from + k) 0 ≡ get_or (rec ++ (part t from (to - from) ++ drop (to + 16) t)) k 0
  stored-behind k =
      let a = length-take-le from t (omega arith) in
      let g = get_or-append-add (take from t) (rec ++ (part t from (to - from) ++ drop (to + 16) t)) k 0 in
      rw a at g

  stored_record : (k : ℕ) → k < 16 → get_or stored (from + k) 0 ≡ get_or rec k 0
  stored_record k h = stored-behind k ∙ get_or-append rec (part t from (to - from) ++ drop (to + 16) t) 0 k (omega arith)

  stored_back : (k : ℕ) → k < to - from → get_or stored (from + 16 + k) 0 ≡ get_or t (from + k) 0
  stored_back k h =
      let e : from + 16 + k ≡ from + (16 + k) = omega arith in
      let p = part_length t from (to - from) (omega arith) in
      let g = get_or-append-add rec (part t from (to - from) ++ drop (to + 16) t) k 0 in
      ap (λ i. get_or stored i 0) e ∙ stored-behind (16 + k) ∙ (rw long at g)
      ∙ get_or-append (part t from (to - from)) (drop (to + 16) t) 0 k (omega arith) ∙ get_or_part t from (to - from) k h

  stored-rest : drop (to + 16) stored ≡ drop (to + 16) t
  stored-rest =
      let a = length-take-le from t (omega arith) in
      let p = part_length t from (to - from) (omega arith) in
      let l : length (take from t ++ (rec ++ part t from (to - from))) ≡ to + 16 = rw (length-append, length-append, a, p, long) (omega arith) in
      let e : stored ≡ (take from t ++ (rec ++ part t from (to - from))) ++ drop (to + 16) t = simp append_assoc in
      rw e (drop_at (take from t ++ (rec ++ part t from (to - from))) (drop (to + 16) t) (to + 16) l)

value-back : (v : Value) (a : ℕ) → a ≡ amount_of v → value_of (kind_of v) a ≡ v
value-back (Absolute v) a e = ap (λ (n : ℕ). Absolute (record { 0 = n })) e
value-back (Relocatable v) a e = ap (λ (n : ℕ). Relocatable (record { 0 = n })) e

-- six bytes of a number below 2 ^ 48 give it back
six_back : (n : ℕ) → n < 2 ^ 48
    → ((((n / 2 ^ 40 % 256 * 256 + n / 2 ^ 32 % 256) * 256 + n / 16777216 % 256) * 256 + n / 65536 % 256) * 256 + n / 256 % 256) * 256 + n % 256 ≡ n
six_back n h =
    let a : n / 2 ^ 40 % 256 ≡ n / 2 ^ 40 = omega arith in
    let b : n / 2 ^ 40 * 256 + n / 2 ^ 32 % 256 ≡ n / 2 ^ 32 = omega arith in
    let c : n / 2 ^ 32 * 256 + n / 16777216 % 256 ≡ n / 16777216 = omega arith in
    let d : n / 16777216 * 256 + n / 65536 % 256 ≡ n / 65536 = omega arith in
    let e : n / 65536 * 256 + n / 256 % 256 ≡ n / 256 = omega arith in
    let f : n / 256 * 256 + n % 256 ≡ n = omega arith in
    rw (a, b, c, d, e, f)

-- a record read back is the name that was written
record_back : (u : List ℕ) (p : ℕ) (x : Name) → x.number < 2 ^ 48 → amount_of x.value < 65536 → x.length < 65536
    → ((k : ℕ) → k < 16 → get_or u (p + k) 0 ≡ get_or (name_bytes x) k 0) → name_at u p ≡ x
unfolding number_at word name_bytes
record_back u p x a b c h =
    let e : p + 8 + 1 ≡ p + 9 = omega arith in
    let f : p + 10 + 1 ≡ p + 11 = omega arith in
    let v = value-back x.value (amount_of x.value / 256 % 256 * 256 + amount_of x.value % 256) (omega arith) in
    let l : x.length / 256 % 256 * 256 + x.length % 256 ≡ x.length = omega arith in
    let n = six_back x.number a in
    simp
    (e, f, h 1 (omega arith), h 2 (omega arith), h 3 (omega arith), h 4 (omega arith), h 5 (omega arith), h 6 (omega arith), h 7 (omega arith), h 8 (omega arith), h 9 (omega arith), h 10 (omega arith), h 11 (omega arith), v, l, n)

name-long : (x : Name) → length (name_bytes x) ≡ 16
unfolding name_bytes
name-long x = refl

-- the table after a name is defined: the names above it one record up, it in its place, all behind the records as before
module _ (n : ℕ) (t : List ℕ) (x : Name) (fits : 16 * n + 16 ≤ length t) (small : x.number < 2 ^ 48) (amount : amount_of x.value < 65536) (short : x.length < 65536) where
  pub names-defined : (i : ℕ) → i ≡ below x.number (names_in n t)
      → names_in (n + 1) (sets (shifted (16 * i) (16 * n) t) (16 * i) (name_bytes x)) ≡ defined x (names_in n t)
  unfolding names_in names_from
  names-defined i is =
      let low : i ≤ n = rw is (place_le n t x.number) in
      let u = stored t (16 * i) (16 * n) (name_bytes x) (name-long x) (omega arith) fits in
      let e : n + 1 ≡ i + suc (n - i) = omega arith in
      let z : 0 + 16 * i ≡ 16 * i = omega arith in
      let front : names_from i u 0 ≡ names_from i t 0 =
      same_names i t u 0 0 (λ k l. let w : 0 + k ≡ k = omega arith in rw w (stored-front t (16 * i) (16 * n) (name_bytes x) (name-long x) (omega arith) fits k l)) in
      let here : name_at u (16 * i) ≡ x = record_back u (16 * i) x small amount short (λ k l. stored_record t (16 * i) (16 * n) (name_bytes x) (name-long x) (omega arith) fits k l) in
      let back : names_from (n - i) u (16 * i + 16) ≡ names_from (n - i) t (16 * i) =
      same_names (n - i) t u (16 * i) (16 * i + 16) (λ k l. stored_back t (16 * i) (16 * n) (name_bytes x) (name-long x) (omega arith) fits k (omega arith)) in
      let whole : names_from (n + 1) u 0 ≡ names_from i t 0 ++ x ∷ names_from (n - i) t (16 * i) =
      rw (e, names-split i (suc (n - i)) u 0, z, front, here, back) in
      let was : defined x (names_from n t 0) ≡ names_from i t 0 ++ x ∷ names_from (n - i) t (16 * i) =
      defined-place x (names_from n t 0) ∙ rw (← is, names-take i n t 0 low, names-drop i n t 0 low, z) in
      ap (λ s. names_from (n + 1) s 0) (stored_is t (16 * i) (16 * n) (name_bytes x) (name-long x) (omega arith) fits) ∙ whole ∙ sym was

  pub rest-defined : (i : ℕ) → i ≤ n → drop (16 * n + 16) (sets (shifted (16 * i) (16 * n) t) (16 * i) (name_bytes x)) ≡ drop (16 * n + 16) t
  rest-defined i low =
      ap (drop (16 * n + 16)) (stored_is t (16 * i) (16 * n) (name_bytes x) (name-long x) (omega arith) fits) ∙ stored-rest t (16 * i) (16 * n) (name_bytes x) (name-long x) (omega arith) fits

-- GOING UP BY 16

pub shift_none : (t : List ℕ) (to : ℕ) → t ≡ shifted to to t
unfolding shifted
shift_none t to = let e : to - to ≡ 0 = omega arith in rw e (sym (take-append-drop (to + 16) t))

pub shift_turn : (t : List ℕ) (at to : ℕ) → 0 < at → at ≤ to → to + 16 ≤ length t
    → set (shifted at to t) (at - 1 + 16) (get_or (shifted at to t) (at - 1) 0) ≡ shifted (at - 1) to t
unfolding shifted
shift_turn t at to h l f =
    let r = part t at (to - at) ++ drop (to + 16) t in
    let e : at + 16 ≡ suc (at - 1 + 16) = omega arith in
    let p = length-take-le (at - 1 + 16) t (omega arith) in
    let w = length-take-le (at + 16) t (omega arith) in
    let s = take-suc t (at - 1 + 16) 0 (omega arith) in
    let v : get_or (take (at + 16) t ++ r) (at - 1) 0 ≡ get_or t (at - 1) 0 = get_or-append (take (at + 16) t) r 0 (at - 1) (omega arith) ∙ get_or-take (at + 16) t (at - 1) 0 (omega arith) in
    let o : take (at + 16) t ++ r ≡ take (at - 1 + 16) t ++ get_or t (at - 1 + 16) 0 ∷ r =
    rw (e, s) (append_snoc (take (at - 1 + 16) t) (get_or t (at - 1 + 16) 0) r) in
    let m : to - (at - 1) ≡ suc (to - at) = omega arith in
    let a : suc (at - 1) ≡ at = omega arith in
    let d = drop-cons t (at - 1) 0 (omega arith) in
    let q : get_or t (at - 1) 0 ∷ r ≡ part t (at - 1) (to - (at - 1)) ++ drop (to + 16) t = rw (m, d, a) in
    rw (v, o) (set_at (take (at - 1 + 16) t) (get_or t (at - 1 + 16) 0) r (get_or t (at - 1) 0) (at - 1 + 16) p ∙ ap (λ l. take (at - 1 + 16) t ++ l) q)

-- ZEROING

pub zeroed-none : (t : List ℕ) → t ≡ zeroed 0 t
unfolding zeroed
zeroed-none t = refl

pub zeroed-more : (n : ℕ) (t : List ℕ) → n < length t → set (zeroed n t) n 0 ≡ zeroed (n + 1) t
unfolding zeroed
zeroed-more n t h = fill_more n 0 t h

-- what is zeroed depends only on what lies behind
pub zeroed_rest : (n : ℕ) (a b : List ℕ) → drop n a ≡ drop n b → zeroed n a ≡ zeroed n b
unfolding zeroed
zeroed_rest n a b e = rw e

-- lists that agree behind a place agree behind every later one
pub rest_more : (m n : ℕ) (a b : List ℕ) → m ≤ n → drop m a ≡ drop m b → drop n a ≡ drop n b
rest_more m n a b h e =
    let w : n ≡ m + (n - m) = omega arith in
    rw w (sym (drop-drop (n - m) m a) ∙ ap (drop (n - m)) e ∙ drop-drop (n - m) m b)
