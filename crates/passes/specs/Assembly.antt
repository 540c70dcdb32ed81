-- R13.1, R15: assembling, its refusals in their order; the answer and every lent byte.
use Rattle.std.specs.Prelude.{ℕ, List, length, ltb, eqb, Result, Ok, Err}
use Rattle.std.proofs.lemmas.List.Edits.{sets}
use Rattle.values.specs.Tests.{pick}
use Rattle.names.specs.declared.Name.{Name}
use Rattle.names.specs.Names.{find}
use Rattle.names.specs.Table.{zeroed}
use Rattle.book.specs.Book.{Book}
use Rattle.book.specs.Writing.{book_bytes}
use Rattle.cards.specs.Source.{source_no, cards_of}
use Rattle.passes.specs.declared.Assembled.{Assembled}
use Rattle.passes.specs.declared.Refused.{Refused}
use Rattle.passes.specs.Two.{Checked, outset, check_two, book_from}
use Rattle.passes.specs.Two.Checked.{clean, bad}
use Rattle.passes.specs.One.{Passed, fresh, pass_one}
use Rattle.passes.specs.One.Passed.{through, stopped}

-- WHAT THE CARDS COME TO: the count of names and the book, or a number of refusal at a card
pub data Translated : Type 0 where
  made : ℕ → Book → Translated
  refused : ℕ → ℕ → Translated

abbrev pub after_two : List (List ℕ) → List Name → Checked → Translated
after_two ss names clean = made (length names) (book_from (find names) ss)
after_two ss names (bad number card) = refused number card

abbrev pub after_one : List (List ℕ) → Passed → Translated
after_one ss (through st) = after_two ss st.names (check_two (find st.names) 1 outset ss)
after_one ss (stopped number card) = refused number card

unfoldable pub assembled : List (List ℕ) → Translated
assembled ss = after_one ss (pass_one 1 fresh ss)

-- THE CALL

-- R15.1: how long a work area must be
abbrev pub work_size : ℕ
work_size = 8192

-- R15.2, R15.3: the answer, and the lent bytes afterwards
pub record Outcome : Type 0 where
  pub answer : Result Assembled Refused
  pub work : List ℕ
  pub out : List ℕ

abbrev pub refusal : ℕ → ℕ → Result Assembled Refused
refusal number card = Err (record { number = number; card = card })

-- R15.6: 1, 2 and 3 leave the work area as it was
abbrev pub refused_at_once : ℕ → List ℕ → List ℕ → Outcome
refused_at_once number work out = record { answer = refusal number 0; work = work; out = out }

-- R15.4, R15.5: 30 where the book doesn't fit, else the book in front of the output
abbrev pub written : ℕ → List ℕ → List ℕ → List ℕ → Outcome
written names bytes work out =
    pick (ltb (length out) (length bytes))
    (record { answer = refusal 30 0; work = work; out = out })
    (record { answer = Ok (record { length = length bytes; names = names }); work = work; out = sets out 0 bytes })

-- R15.5: a refusal leaves the output
abbrev pub outcome_of : Translated → List ℕ → List ℕ → Outcome
outcome_of (made names book) work out = written names (book_bytes book) work out
outcome_of (refused number card) work out = record { answer = refusal number card; work = work; out = out }

-- R13.1, R15.6: 1 and 2, then 3; after every other answer the work area is cleared
unfoldable pub assembling : ℕ → List ℕ → List ℕ → List ℕ → Outcome
assembling width source work out =
    pick (eqb (source_no width (length source)) 0)
    (pick (ltb (length work) work_size)
    (refused_at_once 3 work out)
    (outcome_of (assembled (cards_of width source)) (zeroed work_size work) out))
    (refused_at_once (source_no width (length source)) work out)
