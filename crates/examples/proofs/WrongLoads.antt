-- Each wrong way to store a book's records leaves another storage than `loading` does: computed on one small book.
use mathlib.Core.List.{[], ◌∷◌}
use mathlib.Core.Path.{◌≡◌, refl, sym, ap, ◌∙◌}
use native.Mathlib.Omega.{arith}
use lib.ListN.{get_or}
use Rattle.values.specs.Values.{moved_by}
use Rattle.values.specs.Words.{word, long}
use Rattle.book.specs.Book.{fields_fit, fair, record_ok, records_from, header_ok, entry_at, book_of}
use Rattle.book.specs.Writing.{record_bytes, records_bytes, book_bytes}
use Rattle.fields.specs.Fields.{moved_in, over_in}
use Rattle.load.specs.Load.{stored, stored_all, bytes_stored, first_card, judged, loading}
use Rattle.theorems.specs.Judged.{stored_answer}
use Rattle.examples.specs.WrongLoads.{laid_all, moved_all, stored_twice, Way, stored_by, records, by4, storage, rightly}
use Rattle.examples.specs.WrongLoads.Way.{fields_after_text, first_alone, fields_twice, nothing}
use Rattle.std.specs.Prelude.{None}

-- the constant stands where it was laid, and the second field is moved once
pub rightly-is : rightly ≡ record { answer = stored_answer 6 None; storage = 0x55 ∷ 0x55 ∷ 0x55 ∷ 0x55 ∷ 0 ∷ 0xFF ∷ 0 ∷ 6 ∷ [] }
unfolding rightly moved_by word long fields_fit fair record_ok records_from header_ok entry_at book_of record_bytes records_bytes book_bytes moved_in over_in stored stored_all bytes_stored first_card judged loading
rightly-is = refl

after-text-is : stored_by fields_after_text by4 records storage ≡ 0x55 ∷ 0x55 ∷ 0x55 ∷ 0x55 ∷ 1 ∷ 3 ∷ 0 ∷ 6 ∷ []
unfolding stored_by laid_all moved_all moved_in moved_by word
after-text-is = refl

first-alone-is : stored_by first_alone by4 records storage ≡ 0 ∷ 0xFF ∷ 0x55 ∷ 0x55 ∷ 0 ∷ 5 ∷ 0 ∷ 6 ∷ []
unfolding stored_by stored stored_all moved_in moved_by word
first-alone-is = refl

twice_is : stored_by fields_twice by4 records storage ≡ 0x55 ∷ 0x55 ∷ 0x55 ∷ 0x55 ∷ 0 ∷ 0xFF ∷ 0 ∷ 10 ∷ []
unfolding stored_by stored_twice stored moved_in moved_by word
twice_is = refl

nothing_is : stored_by nothing by4 records storage ≡ storage
unfolding stored_by
nothing_is = refl

-- no wrong way leaves the right storage
pub every-way-shows : (w : Way) → stored_by w by4 records storage ≡ rightly.storage → ⊥
every-way-shows fields_after_text e = omega (arith, ap (λ m. get_or m 4 0) (sym after-text-is ∙ e ∙ ap (λ o. o.storage) rightly-is))
every-way-shows first_alone e = omega (arith, ap (λ m. get_or m 0 0) (sym first-alone-is ∙ e ∙ ap (λ o. o.storage) rightly-is))
every-way-shows fields_twice e = omega (arith, ap (λ m. get_or m 7 0) (sym twice_is ∙ e ∙ ap (λ o. o.storage) rightly-is))
every-way-shows nothing e = omega (arith, ap (λ m. get_or m 7 0) (sym nothing_is ∙ e ∙ ap (λ o. o.storage) rightly-is))
