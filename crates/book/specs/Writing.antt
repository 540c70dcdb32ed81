-- R16.2, R16.4: a book's bytes, from its entry and records.
use Rattle.std.specs.Prelude.{ℕ, ◌+◌, List, [], ◌∷◌, ◌++◌, Bool, true, length, leb, eqb, Option, Some, None}
use Rattle.values.specs.Tests.{pick, both}
use Rattle.values.specs.Words.{two_bytes, four_bytes}
use Rattle.book.specs.Book.{Record, Book, fair, rest_head, record_head}
use Rattle.values.specs.declared.Relocatable.{Relocatable}

-- R16.4: a record's head: the length of its rest, its card, its address, the count of its fields
abbrev pub head_bytes : ℕ → ℕ → ℕ → ℕ → List ℕ
head_bytes rest card address count = two_bytes rest ++ (two_bytes card ++ (two_bytes address ++ (count ∷ [])))

-- R16.4: the head, the offsets, the text
unfoldable pub record_bytes : Record → List ℕ
record_bytes r =
    head_bytes (rest_head + length r.fields + length r.text) r.card r.address (length r.fields) ++ (r.fields ++ r.text)

-- how many bytes the record of a text has, with so many fields: none where the text has no byte
abbrev pub record_length : ℕ → ℕ → ℕ
record_length size count = pick (eqb size 0) 0 (record_head + count + size)

unfoldable pub records_bytes : List Record → List ℕ
records_bytes [] = []
records_bytes (r ∷ rs) = record_bytes r ++ records_bytes rs

-- R16.2: the flag and the entry
abbrev pub entry_bytes : Option Relocatable → List ℕ
entry_bytes None = 0 ∷ 0 ∷ 0 ∷ []
entry_bytes (Some e) = 1 ∷ two_bytes e.0

-- R16.2: a book's header: the length of the rest, version 1, the entry
abbrev pub header_bytes : ℕ → Option Relocatable → List ℕ
header_bytes rest e = four_bytes rest ++ (1 ∷ entry_bytes e)

-- R16.1: the header, the records; the rest begins behind the length
unfoldable pub book_bytes : Book → List ℕ
book_bytes b = header_bytes (4 + length (records_bytes b.records)) b.entry ++ records_bytes b.records

-- an entry that two bytes can hold
abbrev pub entry_fits : Option Relocatable → Bool
entry_fits None = true
entry_fits (Some e) = leb e.0 65535

-- records each of which may follow the one before
unfoldable pub fair_all : ℕ → List Record → Bool
fair_all last [] = true
fair_all last (r ∷ rs) = both (fair last r) (fair_all r.card rs)
