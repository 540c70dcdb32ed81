-- What the printer writes is never longer than 196,608 bytes: three for each byte of an input that it takes.
use Prim.Native.Nat.{ℕ, ◌+◌, ◌*◌, ◌≤◌}
use mathlib.Core.List.{List, [], ◌∷◌}
use mathlib.Core.Path.{◌≡◌, refl, ap, ◌∙◌}
use mathlib.Core.Bool.{Bool, true, false}
use Rattle.std.specs.Prelude.{Some, Option, Result, Ok, Err}
use native.Mathlib.Omega.{arith}
use lib.ListN.{length, length-append}
use lib.Dec.{ltb, eqb}
use borrow.Author.Tests.{eqb-true, eqb-false, ltb-true, ltb-false}
use Rattle.values.proofs.Laws.{part_length}
use Rattle.book.specs.Book.{Record, record_head, records_from, count_at, size_at, next_at, record_at}
use Rattle.book.specs.Reading.{layout_of, records_in}
use Rattle.book.proofs.Laws.{Whole as WholeAt, text-length}
use Rattle.book.proofs.Turns.{by-records, records-are, long_enough}
use Rattle.print.specs.Print.{header_line, record_line, record_lines, printed, offsets_length}
use Rattle.print.proofs.Laws.{line-length, lines_first, lines_none, lines_are, header_length, length_none, length_some, is-long, is_broken_lem, is_whole}
use Rattle.values.specs.declared.Relocatable.{Relocatable}
use Rattle.book.specs.declared.Broken.{Broken}
use Rattle.book.specs.Reading.{broken}

offsets-short : (count : ℕ) → offsets_length count ≤ 2 * count + 2
offsets-short count = go (eqb count 0) refl
  where
    go : (b : Bool) → eqb count 0 ≡ b → offsets_length count ≤ 2 * count + 2
    go true h = let n = length_none count (eqb-true count 0 h) in omega arith
    go false h = let n = length_some count (eqb-false count 0 h) in omega arith

-- the lines of the records from a place on take at most three bytes for each byte from there on
lines_short : (n : ℕ) (s : List ℕ) (at last : ℕ) (rs : List Record) → records_from n s at last ≡ Some rs → length (record_lines rs) + 3 * at ≤ 3 * length s
lines_short n s = by-records s (λ at last rs. length (record_lines rs) + 3 * at ≤ 3 * length s) end more n
  where
    end : (last : ℕ) → length (record_lines []) + 3 * length s ≤ 3 * length s
    end last = let l = ap length lines_none in omega arith

    more : (at last : ℕ) (rest : List Record) → WholeAt s at last → length (record_lines rest) + 3 * next_at s at ≤ 3 * length s
        → length (record_lines (record_at s at ∷ rest)) + 3 * at ≤ 3 * length s
    more at last rest w others =
        let inside = w.rest in
        let counted = w.count in
        let t = text-length s at last inside counted in
        let c = part_length s (at + record_head) (count_at s at) (omega arith) in
        let some = w.is.some in
        let line = line-length (record_at s at) (count_at s at) (size_at s at) c t in
        let few = offsets-short (count_at s at) in
        let l = ap length (lines_first (record_at s at) rest) ∙ length-append (record_line (record_at s at)) (record_lines rest) in
        omega arith

pub printed-short : (s : List ℕ) → length (printed s) ≤ 196608
printed-short s = go (ltb 65536 (length s)) (layout_of s) refl refl
  where
    go : (b : Bool) (l : Result (Option Relocatable) Broken) → ltb 65536 (length s) ≡ b → l ≡ layout_of s → length (printed s) ≤ 196608
    go true l h q = let p = ap length (is-long s (ltb-true 65536 (length s) h)) in omega arith
    go false (Err broken) h q = let p = ap length (is_broken_lem s (ltb-false 65536 (length s) h) q) in omega arith
    go false (Ok e) h q =
        let small = ltb-false 65536 (length s) h in
        let n = lines_short (length s) s 8 0 (records_in s) (records-are s e q) in
        let long = header_length s (long_enough s e q) in
        let k = length-append (header_line s) (record_lines (records_in s)) in
        let f = ap length (is_whole s e small q) ∙ ap length (lines_are s) in
        omega arith
