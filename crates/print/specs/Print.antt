-- R18, what the printer writes: the lines of a book in hex, or one line that refuses it.
use Rattle.std.specs.Prelude.{ℕ, ◌+◌, ◌*◌, ◌/◌, ◌%◌, List, [], ◌∷◌, ◌++◌, length, ltb, leb, eqb, Option, Some, None}
use Rattle.std.proofs.lemmas.List.Edits.{sets}
use Rattle.values.specs.Tests.{pick}
use Rattle.values.specs.Words.{two_bytes, part}
use Rattle.book.specs.Book.{Record, Book, rest_head, book_of}
use Rattle.book.specs.Reading.{records_in}

-- R18.5: 0 to 9 and A to F
abbrev pub hex_digit : ℕ → ℕ
hex_digit n = pick (ltb n 10) (48 + n) (55 + n)

-- two digits for each byte
unfoldable pub hex_bytes : List ℕ → List ℕ
hex_bytes [] = []
hex_bytes (b ∷ bs) = hex_digit (b / 16) ∷ hex_digit (b % 16) ∷ hex_bytes bs

-- R18.5: bytes in hex and what ends them: a blank (32), or byte 0A (10) at the end of a line
unfoldable pub column : List ℕ → ℕ → List ℕ
column bs end = hex_bytes bs ++ (end ∷ [])

-- R18.3: length, version, flag, entry: the first eight bytes of the book
unfoldable pub header_line : List ℕ → List ℕ
header_line s = column (part s 0 4) 32 ++ (column (part s 4 1) 32 ++ (column (part s 5 1) 32 ++ column (part s 6 2) 10))

-- R18.4: the offsets, or - (45) where there are none
unfoldable pub offsets : List ℕ → List ℕ
offsets [] = 45 ∷ 32 ∷ []
offsets (o ∷ os) = column (o ∷ os) 32

-- R18.4: length of the record's rest, card, address, count
unfoldable pub head_columns : ℕ → ℕ → ℕ → ℕ → List ℕ
head_columns count size card address =
    column (two_bytes (rest_head + count + size)) 32
    ++ (column (two_bytes card) 32 ++ (column (two_bytes address) 32 ++ column (count ∷ []) 32))

-- R18.4: these, then offsets or -, then text
unfoldable pub record_line : Record → List ℕ
record_line r =
    head_columns (length r.fields) (length r.text) r.card r.address ++ (offsets r.fields ++ column r.text 10)

unfoldable pub record_lines : List Record → List ℕ
record_lines [] = []
record_lines (r ∷ rs) = record_line r ++ record_lines rs

-- R18.1, R18.2: REFUSED 50 and REFUSED 57, each a line
abbrev pub refused50 : List ℕ
refused50 = 82 ∷ 69 ∷ 70 ∷ 85 ∷ 83 ∷ 69 ∷ 68 ∷ 32 ∷ 53 ∷ 48 ∷ 10 ∷ []

abbrev pub refused57 : List ℕ
refused57 = 82 ∷ 69 ∷ 70 ∷ 85 ∷ 83 ∷ 69 ∷ 68 ∷ 32 ∷ 53 ∷ 55 ∷ 10 ∷ []

-- R18.2 to R18.4: REFUSED 50 where the book breaks its layout, else its lines
abbrev pub lines_of : List ℕ → Option Book → List ℕ
lines_of s None = refused50
lines_of s (Some b) = header_line s ++ record_lines b.records

-- R18.1: what is written for an input: 57 where it is over 65,536 bytes, before 50
unfoldable pub printed : List ℕ → List ℕ
printed s = pick (ltb 65536 (length s)) refused57 (lines_of s (book_of s))

-- R18.6: a lent buffer with bytes in front, or unchanged where it is too short for them
unfoldable pub where_room : List ℕ → List ℕ → List ℕ
where_room bytes m = pick (leb (length bytes) (length m)) (sets m 0 bytes) m

-- how long the column of so many offsets is
abbrev pub offsets_length : ℕ → ℕ
offsets_length count = pick (eqb count 0) 2 (2 * count + 1)

-- how long the line of a record is, with so many fields and bytes of text
abbrev pub line_length : ℕ → ℕ → ℕ
line_length count size = 18 + offsets_length count + (2 * size + 1)

-- the lines of a book that keeps its layout
unfoldable pub book_lines : List ℕ → List ℕ
book_lines s = header_line s ++ record_lines (records_in s)
