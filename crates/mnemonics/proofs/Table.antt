-- The rules of the operation table, computed: its letters ascend, it is the list of Model 10's operations, and no mnemonic is there twice.
use Prim.Native.Nat.{ℕ, zero, suc, ◌+◌, ◌-◌, ◌≤◌, ◌<◌}
use mathlib.Core.List.{List, [], ◌∷◌, map}
use mathlib.Core.Path.{◌≡◌, refl, sym, ap, ◌∙◌}
use mathlib.Core.Bool.{Bool, true, false, not}
use native.Mathlib.Decide.{dec_le}
use native.Mathlib.Omega.{arith}
use Rattle.std.specs.List.{HoldsAt}
use Rattle.std.specs.List.Sorted.{IsNonDecreasingBy, IsPartitionPoint, IsSortedByKey}
use Rattle.std.specs.Ordering.{nat_cmp, is_lt, ordering_index}
use Rattle.std.specs.Cmp.Lexicographic.{slice_cmp}
use Rattle.std.specs.FinMap.{slice_cmp-IsAntisymmetric, nat_cmp-IsAntisymmetric}
use Rattle.std.specs.declared.cmp.Ordering.TheVariants.{Less, Equal, Greater}
use Rattle.std.proofs.lemmas.Cmp.{nat_list_cmp_total, tied_itself}
use Rattle.std.proofs.lemmas.List.{get_or_default}
use Rattle.std.proofs.lemmas.List.Sorted.{searchable_from_sorted}
use borrow.Author.Tests.{ltb-true, eqb-true}
use lib.Dec.{ltb, eqb}
use lib.ListN.{length, length-map, get_or, get_or-eq_default, get_or-map}
use Rattle.values.specs.Tests.{pick, both}
use Rattle.letters.proofs.Every.{every, at}
use Rattle.mnemonics.specs.Rows.{letters_of, five, number5, Row, operation_in}
use Rattle.mnemonics.specs.Model10.{own_operations, two_addresses, one_addresses, branches, jumps, extended_moves, extended_branches, extended_jumps, model10}
use Rattle.mnemonics.specs.Sorted.{key_at, row_from, row_in, Rising, inserted, sorted, sorted_letters, sorted_operations}
use Rattle.operations.specs.declared.Operation.{Operation}
use Rattle.operations.specs.declared.Operation.TheVariants.{Unknown}
use Rattle.mnemonics.proofs.Search.{row-none, row-found, rises, rising_by}
use Rattle.values.proofs.Laws.{clash, both_true, Bytes, base256-same}

-- THE LETTERS ASCEND, AND ARE FIVE BYTES IN EACH ROW

-- the steps from a row to the next
steps : ℕ
steps = length sorted_letters - 1

abbrev letters_in : ℕ → List ℕ
letters_in i = get_or sorted_letters i []

-- the letters of the next row do not come before those of a row
abbrev ascends : ℕ → Bool
ascends i = not (is_lt (slice_cmp nat_cmp (letters_in (i + 1)) (letters_in i)))

ascends_everywhere : every ascends 0 steps ≡ true
unfolding steps every sorted_letters sorted inserted model10 own_operations two_addresses one_addresses branches jumps extended_moves extended_branches extended_jumps letters_of number5
ascends_everywhere = refl

abbrev five_bytes : List ℕ → Bool
five_bytes l = both (eqb (length l) 5) (every (λ k. ltb (get_or l k 0) 256) 0 5)

five_bytes_everywhere : every (λ i. five_bytes (letters_in i)) 0 (steps + 1) ≡ true
unfolding steps every sorted_letters sorted inserted model10 own_operations two_addresses one_addresses branches jumps extended_moves extended_branches extended_jumps letters_of number5
five_bytes_everywhere = refl

sorted-length : length sorted_letters ≡ steps + 1
unfolding steps sorted_letters sorted inserted model10 own_operations two_addresses one_addresses branches jumps extended_moves extended_branches extended_jumps letters_of number5
sorted-length = refl

-- THEIR NUMBERS RISE, SO THAT NO ROW IS THERE TWICE

rises_everywhere : every (rises sorted_letters) 0 steps ≡ true
unfolding steps every sorted_letters sorted inserted model10 own_operations two_addresses one_addresses branches jumps extended_moves extended_branches extended_jumps letters_of number5
rises_everywhere = refl

pub sorted_rising : Rising sorted_letters
sorted_rising = rising_by sorted_letters steps sorted-length rises_everywhere

-- EACH ROW IS WHAT THE LIST SAYS OF ITS LETTERS

-- what the list says of the letters of a row
abbrev pub said : List ℕ → Operation
said letters = operation_in model10 (number5 letters)

pub each_row : map said sorted_letters ≡ sorted_operations
unfolding operation_in model10 own_operations two_addresses one_addresses branches jumps extended_moves extended_branches extended_jumps sorted_letters sorted_operations sorted inserted letters_of number5
each_row = refl

-- past the last row no letters stand, and they are no operation
none_empty : said [] ≡ Unknown
unfolding operation_in model10 own_operations two_addresses one_addresses branches jumps extended_moves extended_branches extended_jumps letters_of number5
none_empty = refl

pub row-operation : (i : ℕ) → get_or sorted_operations i Unknown ≡ operation_in model10 (key_at sorted_letters i)
row-operation i =
    ap (λ l. get_or l i Unknown) (sym each_row)
    ∙ ap (get_or (map said sorted_letters) i) (sym none_empty)
    ∙ get_or-map said sorted_letters i []

-- EVERY MNEMONIC OF THE LIST IS IN A ROW

unfoldable pub in_rows : List (List ℕ) → List Row → Bool
in_rows ls [] = true
in_rows ls (r ∷ rs) = both (ltb (row_in ls (number5 r.letters)) (length ls)) (in_rows ls rs)

pub all_in_rows : in_rows sorted_letters model10 ≡ true
unfolding in_rows row_from model10 own_operations two_addresses one_addresses branches jumps extended_moves extended_branches extended_jumps sorted_letters sorted inserted letters_of number5
all_in_rows = refl

not_in_rows : (ls : List (List ℕ)) (rs : List Row) (key : ℕ) → in_rows ls rs ≡ true → length ls ≤ row_in ls key → operation_in rs key ≡ Unknown
unfolding in_rows operation_in
not_in_rows ls [] key e h = refl
not_in_rows ls (r ∷ rs) key e h =
    go (eqb (number5 r.letters) key) refl
    (not_in_rows ls rs key (both_true (ltb (row_in ls (number5 r.letters)) (length ls)) (in_rows ls rs) e).1 h)
  where
    go : (x : Bool) → eqb (number5 r.letters) key ≡ x → operation_in rs key ≡ Unknown → pick x r.operation (operation_in rs key) ≡ Unknown
    go true q ih =
        let same : number5 r.letters ≡ key = eqb-true (number5 r.letters) key q in
        let there : row_in ls (number5 r.letters) < length ls =
        ltb-true _ _ (both_true (ltb (row_in ls (number5 r.letters)) (length ls)) (in_rows ls rs) e).0 in
        let at_key : row_in ls (number5 r.letters) ≡ row_in ls key = ap (row_in ls) same in
        absurd (omega arith)
    go false q ih = ih

-- what stands beside the row of a number is what the list says of the number
pub by_row : (key : ℕ) → get_or sorted_operations (row_in sorted_letters key) Unknown ≡ operation_in model10 key
by_row key =
    elim (dec_le (length sorted_letters) (row_in sorted_letters key)) [
      | yes past ↦
          row-operation (row_in sorted_letters key)
          ∙ ap said (get_or-eq_default sorted_letters [] past)
          ∙ none_empty
          ∙ sym (not_in_rows sorted_letters model10 key all_in_rows past)
      | no there ↦
          row-operation (row_in sorted_letters key)
          ∙ ap (operation_in model10) (row-found sorted_letters key (length sorted_letters) 0 (omega arith))
    ]

-- NO MNEMONIC TWICE

-- how many rows of a list have a number
unfoldable pub times_in : List Row → ℕ → ℕ
times_in [] key = 0
times_in (r ∷ rs) key = pick (eqb (number5 r.letters) key) 1 0 + times_in rs key

unfoldable pub each_once : List Row → List Row → Bool
each_once all [] = true
each_once all (r ∷ rs) = both (eqb (times_in all (number5 r.letters)) 1) (each_once all rs)

pub no_mnemonic_twice : each_once model10 model10 ≡ true
unfolding each_once times_in model10 own_operations two_addresses one_addresses branches jumps extended_moves extended_branches extended_jumps letters_of number5
no_mnemonic_twice = refl

-- LETTERS AND THEIR NUMBER

five-bytes : (a : List ℕ) → Bytes a → Bytes (five a)
five-bytes a f zero = f 0
five-bytes a f (suc zero) = f 1
five-bytes a f (suc (suc zero)) = f 2
five-bytes a f (suc (suc (suc zero))) = f 3
five-bytes a f (suc (suc (suc (suc zero)))) = f 4
five-bytes a f (suc (suc (suc (suc (suc k))))) = omega arith

-- letters with one number are the same, all five of them
pub same-letters : (a b : List ℕ) → Bytes a → Bytes b → number5 a ≡ number5 b → five a ≡ five b
unfolding number5
same-letters a b f g e = base256-same (five a) (five b) refl (five-bytes a f) (five-bytes b g) e

five-whole : (l : List ℕ) → length l ≡ 5 → five l ≡ l
five-whole [] e = absurd (omega arith)
five-whole (a ∷ []) e = absurd (omega arith)
five-whole (a ∷ b ∷ []) e = absurd (omega arith)
five-whole (a ∷ b ∷ c ∷ []) e = absurd (omega arith)
five-whole (a ∷ b ∷ c ∷ d ∷ []) e = absurd (omega arith)
five-whole (a ∷ b ∷ c ∷ d ∷ f ∷ []) e = refl
five-whole (a ∷ b ∷ c ∷ d ∷ f ∷ g ∷ l) e = absurd (omega arith)

-- such letters are told apart by their number
told_apart : (l w : List ℕ) → five_bytes l ≡ true → length w ≡ 5 → Bytes w → number5 l ≡ number5 w → l ≡ w
told_apart l w t long f e =
    let (size, each) = both_true (eqb (length l) 5) _ t in
    let n = eqb-true (length l) 5 size in
    let bytes : Bytes l =
    λ k. elim (dec_le 5 k) [
      | yes past ↦ let z = get_or-eq_default l 0 {n = k} (omega arith) in omega arith
      | no here ↦ ltb-true (get_or l k 0) 256 (at (λ i. ltb (get_or l i 0) 256) 5 0 k each (omega arith) (omega arith))
    ] in
    sym (five-whole l n) ∙ same-letters l w bytes f e ∙ five-whole w long

-- THE ROWS OF THE CODE, SEARCHED

not_true : (b : Bool) → not b ≡ true → b ≡ false
not_true true e = clash (cc)
not_true false e = refl

-- the rows that the code holds
unfoldable pub sorted_rows : List (List ℕ × Operation)
sorted_rows = map (λ r. (r.letters, r.operation)) (sorted model10)

module _ (rows : List (List ℕ × Operation)) (letters-are : map (λ y. y.0) rows ≡ sorted_letters) (operations-are : map (λ y. y.1) rows ≡ sorted_operations) where
  rows-length : length rows ≡ steps + 1
  rows-length = sym (length-map rows (λ (y : List ℕ × Operation). y.0)) ∙ ap length letters-are ∙ sorted-length

  letters_at : (i : ℕ) (d : List ℕ × Operation) → i < length rows → (get_or rows i d).0 ≡ letters_in i
  letters_at i d h =
      ap (λ (y : List ℕ × Operation). y.0) (get_or_default rows i d ([], Unknown) h)
      ∙ sym (get_or-map (λ (y : List ℕ × Operation). y.0) rows i ([], Unknown))
      ∙ ap (λ l. get_or l i []) letters-are

  rows_ascend : IsSortedByKey (λ y. y.0) (slice_cmp nat_cmp) rows
  rows_ascend k d z h =
      let n = rows-length in
      rw (letters_at (k + 1) d h, letters_at k d (omega arith))
      (not_true _ (at ascends steps 0 k ascends_everywhere (omega arith) (omega arith)))

  -- a row that is found stands for what the list says
  pub met : (w : List ℕ) (i : ℕ) → i < length rows → HoldsAt (λ y. slice_cmp nat_cmp y.0 w ≡ Equal) rows i → (get_or rows i ([], Unknown)).1 ≡ operation_in model10 (number5 w)
  met w i h tie =
      sym (get_or-map (λ (y : List ℕ × Operation). y.1) rows i ([], Unknown))
      ∙ ap (λ l. get_or l i Unknown) operations-are
      ∙ row-operation i
      ∙ ap said (sym (letters_at i ([], Unknown) h) ∙ slice_cmp-IsAntisymmetric nat_cmp-IsAntisymmetric _ w (tie ([], Unknown)))

  -- where no row is found, the list has none
  pub missed : (w : List ℕ) → length w ≡ 5 → Bytes w → (i : ℕ)
      → (IsNonDecreasingBy (λ y. ordering_index (slice_cmp nat_cmp y.0 w)) rows → IsPartitionPoint (λ y. slice_cmp nat_cmp y.0 w ≡ Less) (λ y. slice_cmp nat_cmp y.0 w ≡ Greater) rows i)
      → Unknown ≡ operation_in model10 (number5 w)
  missed w long f i point =
      let none = row-none sorted_letters (number5 w) (length sorted_letters) 0 absent in
      sym (not_in_rows sorted_letters model10 (number5 w) all_in_rows (omega arith))
    where
      absent : (j : ℕ) → 0 ≤ j → j < 0 + length sorted_letters → number5 (letters_in j) ≡ number5 w → ⊥
      absent j z h e =
          let n = rows-length in
          let m = sorted-length in
          let (low, high) = point (searchable_from_sorted nat_list_cmp_total (λ y. y.0) rows w rows_ascend) in
          let same = told_apart (letters_in j) w (at (λ k. five_bytes (letters_in k)) (steps + 1) 0 j five_bytes_everywhere (omega arith) (omega arith)) long f e in
          let tie : slice_cmp nat_cmp (get_or rows j ([], Unknown)).0 w ≡ Equal = rw (letters_at j ([], Unknown) (omega arith), same) (tied_itself nat_list_cmp_total w) in
          elim (dec_le i j) [
            | yes up ↦ let more = high j ([], Unknown) up (omega arith) in clash (cc)
            | no down ↦ let less = low j ([], Unknown) (omega arith) (omega arith) in clash (cc)
          ]
