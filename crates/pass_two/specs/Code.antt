-- Pass two over a source and the names, and what its answer stands for.
use Rattle.std.specs.Prelude.{ℕ, List, Result, Ok, Err}
use Rattle.names.specs.Names.{find}
use Rattle.names.specs.declared.Name.{Name}
use Rattle.book.specs.Writing.{book_bytes}
use Rattle.passes.specs.Two.{Checked, outset, check_two, book_from}
use Rattle.passes.specs.Two.Checked.{clean, bad}
use Rattle.passes.specs.declared.Refused.{Refused}

-- what pass two finds on the cards, over the names; and the bytes of the book
unfoldable pub checked_in : List (List ℕ) → List Name → Checked
checked_in cards names = check_two (find names) 1 outset cards

unfoldable pub bytes_in : List (List ℕ) → List Name → List ℕ
bytes_in cards names = book_bytes (book_from (find names) cards)

-- the length of the book counts where no card is refused
abbrev pub judged_as : Checked → ℕ → Result ℕ Refused
judged_as clean n = Ok n
judged_as (bad number card) n = Err (record { number = number; card = card })

abbrev pub judged_length : Result ℕ Refused → ℕ
judged_length (Ok n) = n
judged_length (Err r) = 0
