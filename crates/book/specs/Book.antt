-- R16, the book: a list of bytes read as an entry and records, or refused.
use Rattle.std.specs.Prelude.{ℕ, zero, suc, ◌+◌, ◌-◌, List, [], ◌∷◌, Bool, true, length, get_or, ltb, leb, eqb, Option, Some, None}
use Rattle.values.specs.Tests.{pick, both}
use Rattle.values.specs.Words.{word, long, part}
use Rattle.values.specs.declared.Relocatable.{Relocatable}

-- R16.4: one record: its card, its address, the offsets of its fields, its text
pub record Record : Type 0 where
  pub card : ℕ
  pub address : ℕ
  pub fields : List ℕ
  pub text : List ℕ

-- R16.1: a book: the entry, or none, and the records in card order
pub record Book : Type 0 where
  pub entry : Option Relocatable
  pub records : List Record

-- WHAT A RECORD MUST BE

-- R16.6: offsets two or more apart, from `least` on, each with its two bytes inside a text of `size` bytes
unfoldable pub fields_fit : ℕ → ℕ → List ℕ → Bool
fields_fit least size [] = true
fields_fit least size (o ∷ os) = both (leb least o) (both (leb (o + 2) size) (fields_fit (o + 2) size os))

-- R16.4 to R16.6: a record that may follow the card `last`: card numbers rise to at most 4,000; text of 1 to 256 bytes, its address plus
-- its length at most 65536; fields inside the text
unfoldable pub fair : ℕ → Record → Bool
fair last r =
    both (ltb last r.card)
    (both (leb r.card 4000)
    (both (leb 1 (length r.text))
    (both (leb (length r.text) 256)
    (both (leb (r.address + length r.text) 65536) (fields_fit 0 (length r.text) r.fields)))))

-- R16.4: A RECORD AT A PLACE: its head, which is the length of its rest, its card, its address, the count of its fields; behind it the offsets, the text

-- how many bytes the head has, of those the length counts: card, address, count of fields
abbrev pub rest_head : ℕ
rest_head = 5

-- how many bytes the whole head has, with the two of the length
abbrev pub record_head : ℕ
record_head = 2 + rest_head

abbrev pub rest_at : List ℕ → ℕ → ℕ
rest_at s at = word s at

abbrev pub card_at : List ℕ → ℕ → ℕ
card_at s at = word s (at + 2)

abbrev pub address_at : List ℕ → ℕ → ℕ
address_at s at = word s (at + 4)

abbrev pub count_at : List ℕ → ℕ → ℕ
count_at s at = get_or s (at + 6) 0

-- the length of the text, the place of the text, the place behind the record
abbrev pub size_at : List ℕ → ℕ → ℕ
size_at s at = rest_at s at - (rest_head + count_at s at)

abbrev pub text_at : List ℕ → ℕ → ℕ
text_at s at = at + record_head + count_at s at

abbrev pub next_at : List ℕ → ℕ → ℕ
next_at s at = at + 2 + rest_at s at

abbrev pub record_at : List ℕ → ℕ → Record
record_at s at =
    record {
      card = card_at s at;
      address = address_at s at;
      fields = part s (at + record_head) (count_at s at);
      text = part s (text_at s at) (size_at s at);
    }

-- R16.8: a fair record stands at a place, whole
unfoldable pub record_ok : List ℕ → ℕ → ℕ → Bool
record_ok s at last =
    both (leb (next_at s at) (length s)) (both (leb (rest_head + count_at s at) (rest_at s at)) (fair last (record_at s at)))

-- THE BOOK

abbrev pub onto : Record → Option (List Record) → Option (List Record)
onto r None = None
onto r (Some rs) = Some (r ∷ rs)

-- R16.7: the records from a place to the end, with nothing behind the last; the first number only bounds the recursion
unfoldable pub records_from : ℕ → List ℕ → ℕ → ℕ → Option (List Record)
records_from zero s at last = None
records_from (suc n) s at last =
    pick (eqb at (length s)) (Some [])
    (pick (record_ok s at last) (onto (record_at s at) (records_from n s (next_at s at) (card_at s at))) None)

-- R16.2, R16.7: the length of the rest, version 1, the flag 0 or 1, the entry 0 where the flag is 0
unfoldable pub header_ok : List ℕ → Bool
header_ok s =
    both (leb 8 (length s))
    (both (eqb (long s 0 + 4) (length s))
    (both (eqb (get_or s 4 0) 1)
    (both (leb (get_or s 5 0) 1) (pick (eqb (get_or s 5 0) 0) (eqb (word s 6) 0) true))))

-- R16.2: the entry, where the flag says that there is one
unfoldable pub entry_at : List ℕ → Option Relocatable
entry_at s = pick (eqb (get_or s 5 0) 0) None (Some (record { 0 = word s 6 }))

abbrev pub with_entry : Option Relocatable → Option (List Record) → Option Book
with_entry e None = None
with_entry e (Some rs) = Some (record { entry = e; records = rs })

-- R16.8: the book that a list of bytes is; none where it breaks its layout (50)
unfoldable pub book_of : List ℕ → Option Book
book_of s = pick (header_ok s) (with_entry (entry_at s) (records_from (length s) s 8 0)) None
