-- The outcome of a broken book, and of a whole one.
use Rattle.std.proofs.Common.{refl}
use Rattle.std.proofs.lemmas.Result.{err_from_is_err_and}
use Rattle.load.proofs.Laws.{is_broken_lem, is_whole, by_outcome}
use Rattle.load.proofs.load_book.Goals as goal

pub returns-in_err-entry : goal.returns-in_err-entry
returns-in_err-entry c =
    let p = err_from_is_err_and c.from_residual.result c.from_residual.ensures.1 in
    let (r, m) = by_outcome _ _ _ _ (is_broken_lem _ _ _ c.in_err-entry.ensures) refl refl in
    record { value = rw (p.1, p.2) r; storage_after = m }

pub returns : goal.returns
returns c =
    let (r, m) = by_outcome _ _ _ _ (is_whole _ _ _ _ c.in_ok-entry.ensures) c.load_whole.ensures.value c.load_whole.ensures.storage_after in
    record { value = r; storage_after = m }
