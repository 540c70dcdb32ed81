-- The text of a constant: how long it is, and a turn of each loop that lays it.
use Prim.Native.Nat.{ℕ, zero, suc, ◌+◌, ◌-◌, ◌*◌, ◌/◌, ◌%◌, ◌≤◌, ◌<◌}
use mathlib.Core.List.{List, ◌∷◌, ◌++◌, append_assoc}
use mathlib.Core.Path.{◌≡◌, refl, sym, ap, ◌∙◌}
use mathlib.Core.Bool.{Bool, true, false}
use native.Mathlib.Nat.{not-suc-le-zero, suc-mul}
use native.Mathlib.Numerals.{sub-one}
use native.Mathlib.Omega.{arith}
use borrow.Author.Tests.{eqb-true, eqb-false, ne_eqb}
use lib.Dec.{eqb}
use lib.ListN.{length, set, replicate, take, drop, length-append, length-replicate}
use lib.Seq.{sets, sets-eq}
use borrow.Rule.Slice.PartMut.{put_mid}
use Rattle.std.proofs.lemmas.Slice.{put_mid-paste}
use Rattle.std.proofs.lemmas.List.Edits.{paste_all}
use Rattle.values.specs.Tests.{pick}
use Rattle.values.proofs.Laws.{sets_append}
use Rattle.terms.specs.Terms.{quoted_at}
use Rattle.data.specs.declared.DataType.{DataType}
use Rattle.data.specs.declared.DataType.TheVariants.{Characters, Hexadecimal, Decimal, Address}
use Rattle.data.specs.declared.Data.{Data}
use Rattle.data.specs.Sizes.{half_up, needed, bytes_needed, data_size, constant_no}
use Rattle.data.specs.Text.{code_in, next_in, codes_from, hex_at, pair_at, pairs_from, hex_bytes, characters_text, hexadecimal_text, decimal_text, copy_of, copy_text, repeated, constant_text}
use Rattle.data.proofs.Fine.{constant-fine}

-- LENGTHS

pub codes_length : (n : ℕ) (s : List ℕ) (at : ℕ) → length (codes_from n s at) ≡ n
unfolding codes_from
codes_length zero s at = refl
codes_length (suc n) s at = ap suc (codes_length n s (next_in (quoted_at s at) at))

pairs_length : (n : ℕ) (s : List ℕ) (at : ℕ) → length (pairs_from n s at) ≡ n
unfolding pairs_from
pairs_length zero s at = refl
pairs_length (suc n) s at = ap suc (pairs_length n s (at + 2))

pub hex_length : (count : ℕ) (s : List ℕ) (at : ℕ) → length (hex_bytes count s at) ≡ half_up count
unfolding hex_bytes
hex_length count s at = go (eqb (count % 2) 0) refl
  where
    go : (x : Bool) → eqb (count % 2) 0 ≡ x → length (pick x (pairs_from (count / 2) s at) (hex_at s at ∷ pairs_from (count / 2) s (at + 1))) ≡ half_up count
    go true e = let p = pairs_length (count / 2) s at in let z = eqb-true (count % 2) 0 e in omega arith
    go false e = let p = pairs_length (count / 2) s (at + 1) in let z = eqb-false (count % 2) 0 e in omega (arith, z)

pub copy_length : (s : List ℕ) (d : Data) → bytes_needed d ≤ d.length → length (copy_text s d) ≡ d.length
unfolding characters_text hexadecimal_text decimal_text
copy_length s d h = go d.kind h
  where
    go : (k : DataType) → needed k d.count ≤ d.length → length (copy_of k s d) ≡ d.length
    go Characters h =
        let n = codes_length d.count s d.value in
        simp (length-append, length-replicate) (omega arith)
    go Hexadecimal h =
        let n = hex_length d.count s d.value in
        simp (length-append, length-replicate) (omega arith)
    go Decimal h =
        let n = codes_length d.count s d.value in
        simp (length-append, length-replicate) (omega arith)
    go Address h = length-replicate d.length 0

repeated-length : (n : ℕ) (t : List ℕ) → length (repeated n t) ≡ n * length t
unfolding repeated
repeated-length zero t = omega arith
repeated-length (suc n) t =
    let r = repeated-length n t in
    let m : suc n * length t ≡ n * length t + length t = suc-mul n (length t) in
    simp length-append (omega arith)

-- the text of a constant that is not refused has n times m bytes
pub text-length : (s : List ℕ) (d : Data) → constant_no d ≡ 0 → length (constant_text s d) ≡ data_size d
unfolding constant_text data_size
text-length s d e =
    repeated-length d.copies (copy_text s d) ∙ ap (λ n. d.copies * n) (copy_length s d (constant-fine d e).room)

-- A TURN OF EACH LOOP

-- a byte stored, and the run behind it
pub store_more : (m : List ℕ) (to i b : ℕ) (ys xs : List ℕ) → ys ≡ b ∷ xs → sets m (to + i) ys ≡ sets (set m (to + i) b) (to + (i + 1)) xs
store_more m to i b ys xs e = let k : to + (i + 1) ≡ suc (to + i) = omega arith in rw (e, k)

module _ (n i : ℕ) (s : List ℕ) (at : ℕ) (h : i < n) where
  left : n - i ≡ suc (n - (i + 1))
  left = omega arith

  pub codes_more : codes_from (n - i) s at ≡ code_in (quoted_at s at) ∷ codes_from (n - (i + 1)) s (next_in (quoted_at s at) at)
  unfolding codes_from
  codes_more = rw left

  pub pairs_more : pairs_from (n - i) s at ≡ pair_at s at ∷ pairs_from (n - (i + 1)) s (at + 2)
  unfolding pairs_from
  pairs_more = rw left

pub fill_more : (n i b : ℕ) → i < n → replicate (n - i) b ≡ b ∷ replicate (n - (i + 1)) b
fill_more n i b h = let k : n - i ≡ suc (n - (i + 1)) = omega arith in rw k

-- nothing is left to store
pub codes_done : (m : List ℕ) (to n i : ℕ) (s : List ℕ) (at : ℕ) → n ≤ i → sets m to (codes_from (n - i) s at) ≡ m
unfolding codes_from
codes_done m to n i s at h = let k : n - i ≡ 0 = omega arith in rw k

pub pairs_done : (m : List ℕ) (to n i : ℕ) (s : List ℕ) (at : ℕ) → n ≤ i → sets m to (pairs_from (n - i) s at) ≡ m
unfolding pairs_from
pairs_done m to n i s at h = let k : n - i ≡ 0 = omega arith in rw k

pub fill_done : (m : List ℕ) (to n i b : ℕ) → n ≤ i → sets m to (replicate (n - i) b) ≡ m
fill_done m to n i b h = let k : n - i ≡ 0 = omega arith in rw k

-- a part written over, as a run stored from where it begins
pub part-stored : (m : List ℕ) (at n : ℕ) (ys zs : List ℕ) → at + n ≤ length m → ys ≡ zs → length zs ≡ n → put_mid at n m ys ≡ sets m at zs
part-stored m at n ys zs h e l =
    put_mid-paste at n m ys zs n e refl (sym l) ∙ paste_all m at zs n (sym l)
    ∙ ap (λ k. take at m ++ (zs ++ drop (at + k) m)) (sym l) ∙ sym (append_assoc (take at m) zs (drop (at + length zs) m)) ∙ sym (sets-eq zs m at (omega arith))

-- a copy, and those behind it
pub copies_more : (m p : List ℕ) (at n w : ℕ) (t : List ℕ) → 0 < n → p ≡ sets m at t → length t ≡ w → sets m at (repeated n t) ≡ sets p (at + w) (repeated (n - 1) t)
unfolding repeated
copies_more m p at zero w t h e l = absurd (not-suc-le-zero h)
copies_more m p at (suc n) w t h e l = rw (sub-one, e, sym l) (sets_append m at t (repeated n t))

pub copies_done : (m : List ℕ) (at n : ℕ) (t : List ℕ) → n ≤ 0 → sets m at (repeated n t) ≡ m
unfolding repeated
copies_done m at zero t h = refl
copies_done m at (suc n) t h = absurd (not-suc-le-zero h)

pub product-more : (n w : ℕ) → 0 < n → n * w ≡ (n - 1) * w + w
product-more zero w h = absurd (not-suc-le-zero h)
product-more (suc n) w h = rw sub-one (suc-mul n w)

-- an odd count of hex digits: the first has a byte of its own
pub odd_hex : (m : List ℕ) (to count : ℕ) (s : List ℕ) (at x : ℕ) → (count % 2 ≡ 0 → ⊥) → x ≡ hex_at s at
    → sets (set m to x) (to + 1) (pairs_from (count / 2) s (at + 1)) ≡ sets m to (hex_bytes count s at)
unfolding hex_bytes
odd_hex m to count s at x n e = let k : to + 1 ≡ suc to = omega arith in rw (ne_eqb (count % 2) 0 n, e, k)

-- the text of one copy, by its type
pub copy_is : (s : List ℕ) (d : Data) (k : DataType) → d.kind ≡ k → copy_text s d ≡ copy_of k s d
copy_is s d k e = ap (λ x. copy_of x s d) e
