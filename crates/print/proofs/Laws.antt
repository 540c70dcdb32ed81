-- Laws on the printer's lines: columns, their lengths, and lines written one after the other.
use Prim.Native.Nat.{ℕ, suc, ◌+◌, ◌*◌, ◌/◌, ◌%◌, ◌≤◌, ◌<◌}
use mathlib.Core.List.{List, [], ◌∷◌, ◌++◌}
use mathlib.Core.Path.{◌≡◌, refl, sym, ap, ◌∙◌}
use native.Mathlib.Omega.{arith}
use lib.ListN.{length, get_or, drop, set, length-append, drop_of_length-le}
use lib.Seq.{sets}
use borrow.Author.Tests.{lt-ltb, le-ltb, le-leb, lt-leb, eq-eqb, ne_eqb, eqb-true, eqb-false}
use Rattle.values.specs.Words.{two_bytes, part}
use Rattle.values.proofs.Laws.{drop_turn, part_length, then}
use Rattle.book.specs.Book.{Record, rest_head}
use Rattle.book.specs.Reading.{layout_of, records_in, Kept}
use Rattle.book.specs.Writing.{fair_all}
use Rattle.book.proofs.Laws.{fields-few}
use Rattle.book.proofs.Written.{fair-first, read-fair}
use Rattle.std.specs.List.{sum_by}
use Rattle.std.proofs.lemmas.List.Sums.{sum_by-cons}
use mathlib.Core.Bool.{Bool, true, false}
use lib.Dec.{eqb}
use Rattle.book.proofs.Turns.{book-none, book-is}
use Rattle.print.specs.Print.{hex_digit, hex_bytes, column, header_line, offsets, head_columns, record_line, record_lines, book_lines, printed, refused50, refused57, where_room, offsets_length, line_length}
use Rattle.std.specs.Prelude.{Option, Ok, Err}
use Rattle.values.specs.declared.Relocatable.{Relocatable}
use Rattle.book.specs.Reading.{broken}

-- COLUMNS

column-more : (b : ℕ) (bs : List ℕ) (end : ℕ) → column (b ∷ bs) end ≡ hex_digit (b / 16) ∷ hex_digit (b % 16) ∷ column bs end
unfolding column hex_bytes
column-more b bs end = refl

column-none : (end : ℕ) → column [] end ≡ end ∷ []
unfolding column hex_bytes
column-none end = refl

hex_length : (bs : List ℕ) → length (hex_bytes bs) ≡ 2 * length bs
unfolding hex_bytes
hex_length [] = refl
hex_length (b ∷ bs) = let n = hex_length bs in omega arith

pub column-length : (bs : List ℕ) (end : ℕ) → length (column bs end) ≡ 2 * length bs + 1
unfolding column
column-length bs end = let n = hex_length bs in let a = length-append (hex_bytes bs) (end ∷ []) in omega arith

-- two bytes stored, and the rest behind them
sets-two : (m : List ℕ) (at a b : ℕ) (vs : List ℕ) → sets m at (a ∷ b ∷ vs) ≡ sets (set (set m at a) (at + 1) b) (at + 2) vs
sets-two m at a b vs = let e : at + 1 ≡ suc at = omega arith in let f : at + 2 ≡ suc (suc at) = omega arith in rw (e, f)

-- a turn of the loop that writes a column, and its last byte
pub column_turn : (m : List ℕ) (at : ℕ) (bs : List ℕ) (i end a b : ℕ) → i < length bs → a ≡ hex_digit (get_or bs i 0 / 16) → b ≡ hex_digit (get_or bs i 0 % 16)
    → sets m at (column (drop i bs) end) ≡ sets (set (set m at a) (at + 1) b) (at + 2) (column (drop (i + 1) bs) end)
column_turn m at bs i end a b h p q = rw (drop_turn bs i h, column-more, sets-two, p, q)

pub column_last : (m : List ℕ) (at : ℕ) (bs : List ℕ) (i end : ℕ) → length bs ≤ i → sets m at (column (drop i bs) end) ≡ set m at end
column_last m at bs i end h = rw (drop_of_length-le bs h, column-none)

-- ONE WRITE AFTER ANOTHER

pub then-column : (m m₁ m₂ : List ℕ) (at p : ℕ) (bs : List ℕ) (end : ℕ) (vs : List ℕ) → m₁ ≡ sets m at (column bs end) → p ≡ at + (2 * length bs + 1) → m₂ ≡ sets m₁ p vs
    → m₂ ≡ sets m at (column bs end ++ vs)
then-column m m₁ m₂ at p bs end vs a b c = then m m₁ m₂ at p (column bs end) vs a (b ∙ ap (λ n. at + n) (sym (column-length bs end))) c

-- LINES

pub offsets-none : (os : List ℕ) → length os ≡ 0 → offsets os ≡ 45 ∷ 32 ∷ []
unfolding offsets
offsets-none [] h = refl
offsets-none (o ∷ os) h = absurd (omega arith)

pub offsets-some : (os : List ℕ) → (length os ≡ 0 → ⊥) → offsets os ≡ column os 32
unfolding offsets
offsets-some [] h = absurd (h refl)
offsets-some (o ∷ os) h = refl

pub length_none : (count : ℕ) → count ≡ 0 → offsets_length count ≡ 2
length_none count e = rw (eq-eqb count 0 e)

pub length_some : (count : ℕ) → (count ≡ 0 → ⊥) → offsets_length count ≡ 2 * count + 1
length_some count e = rw (ne_eqb count 0 e)

pub offsets-most : (count most : ℕ) → count ≤ most → 1 ≤ most → offsets_length count ≤ 2 * most + 1
offsets-most count most h k = go (eqb count 0) refl
  where
    go : (b : Bool) → eqb count 0 ≡ b → offsets_length count ≤ 2 * most + 1
    go true e = let n = length_none count (eqb-true count 0 e) in omega arith
    go false e = let n = length_some count (eqb-false count 0 e) in omega arith

pub offsets-length : (os : List ℕ) → length (offsets os) ≡ offsets_length (length os)
unfolding offsets
offsets-length [] = refl
offsets-length (o ∷ os) = column-length (o ∷ os) 32 ∙ sym (length_some (length (o ∷ os)) (λ e. omega arith))

pub header_is : (s : List ℕ) → header_line s ≡ column (part s 0 4) 32 ++ (column (part s 4 1) 32 ++ (column (part s 5 1) 32 ++ column (part s 6 2) 10))
unfolding header_line
header_is s = refl

pub header_length : (s : List ℕ) → 8 ≤ length s → length (header_line s) ≡ 20
unfolding header_line
header_length s h =
    simp (length-append, column-length, part_length s 0 4 (omega arith), part_length s 4 1 (omega arith), part_length s 5 1 (omega arith), part_length s 6 2 (omega arith))

pub head-is : (count size card address : ℕ) → head_columns count size card address
    ≡ column (two_bytes (rest_head + count + size)) 32 ++ (column (two_bytes card) 32 ++ (column (two_bytes address) 32 ++ column (count ∷ []) 32))
unfolding head_columns
head-is count size card address = refl

pub head-length : (count size card address : ℕ) → length (head_columns count size card address) ≡ 18
unfolding head_columns
head-length count size card address = simp (length-append, column-length)

pub line-is : (r : Record) (count size : ℕ) → length r.fields ≡ count → length r.text ≡ size
    → record_line r ≡ head_columns count size r.card r.address ++ (offsets r.fields ++ column r.text 10)
unfolding record_line
line-is r count size a b = rw (a, b)

pub line-length : (r : Record) (count size : ℕ) → length r.fields ≡ count → length r.text ≡ size → length (record_line r) ≡ line_length count size
line-length r count size a b =
    let l = line-is r count size a b in
    let x = length-append (head_columns count size r.card r.address) (offsets r.fields ++ column r.text 10) in
    let y = length-append (offsets r.fields) (column r.text 10) in
    let h = head-length count size r.card r.address in
    let o = offsets-length r.fields ∙ ap offsets_length a in
    let t = column-length r.text 10 in
    ap length l ∙ omega arith

pub lines_first : (r : Record) (rs : List Record) → record_lines (r ∷ rs) ≡ record_line r ++ record_lines rs
unfolding record_lines
lines_first r rs = refl

pub lines_none : record_lines [] ≡ []
unfolding record_lines
lines_none = refl

-- how long the lines are together: each at most 788 bytes
pub lines_sum : (rs : List Record) → length (record_lines rs) ≡ sum_by (λ r. line_length (length r.fields) (length r.text)) rs
lines_sum [] = ap length lines_none
lines_sum (r ∷ rs) =
    let others = lines_sum rs in
    let here = line-length r _ _ refl refl in
    let sum = sum_by-cons (λ r. line_length (length r.fields) (length r.text)) r rs in
    ap length (lines_first r rs) ∙ length-append (record_line r) (record_lines rs) ∙ omega arith

lines_most : (rs : List Record) (last : ℕ) → fair_all last rs ≡ true → last ≤ 4000 → length (record_lines rs) + 788 * last ≤ 3152000
lines_most [] last e h = let none = ap length lines_none in omega arith
lines_most (r ∷ rs) last e h =
    let (f, others) = fair-first last r rs e in
    let most = lines_most rs r.card others f.card in
    let few = fields-few 0 (length r.text) r.fields f.inside (omega arith) in
    let here = line-length r _ _ refl refl in
    let short = f.short in
    let rise = f.rise in
    let offsets = offsets-most (length r.fields) 128 (omega arith) (omega arith) in
    let more = ap length (lines_first r rs) ∙ length-append (record_line r) (record_lines rs) in
    omega arith

pub lines_fit : (s : List ℕ) → Kept s → length (record_lines (records_in s)) ≤ 3152000
lines_fit s (e, q) =
    let most = lines_most (records_in s) 0 (read-fair s _ (book-is s e q)) (omega arith) in
    omega arith

-- THE WHOLE

pub room : (bs m : List ℕ) → length bs ≤ length m → where_room bs m ≡ sets m 0 bs
unfolding where_room
room bs m h = rw (le-leb _ _ h)

pub no_room : (bs m : List ℕ) → length m < length bs → where_room bs m ≡ m
unfolding where_room
no_room bs m h = rw (lt-leb _ _ h)

pub is-long : (s : List ℕ) → 65536 < length s → printed s ≡ refused57
unfolding printed
is-long s h = rw (lt-ltb _ _ h)

pub is_broken_lem : (s : List ℕ) → length s ≤ 65536 → (Err broken) ≡ layout_of s → printed s ≡ refused50
unfolding printed
is_broken_lem s h e = rw (le-ltb _ _ h, book-none s e)

pub is_whole : (s : List ℕ) (e : Option Relocatable) → length s ≤ 65536 → Ok e ≡ layout_of s → printed s ≡ book_lines s
unfolding printed book_lines
is_whole s e h q = rw (le-ltb _ _ h, book-is s e q)

pub lines_are : (s : List ℕ) → book_lines s ≡ header_line s ++ record_lines (records_in s)
unfolding book_lines
lines_are s = refl

-- a length and a buffer that are those of the same bytes
pub by_bytes : (a b : List ℕ) (n : ℕ) (m m' : List ℕ) → a ≡ b → n ≡ length b → m' ≡ where_room b m → (n ≡ length a) × (m' ≡ where_room a m)
by_bytes a b n m m' e p q = rw e (p, q)
