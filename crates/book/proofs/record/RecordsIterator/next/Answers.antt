-- The record that the reader gives is the first of those left; none is left where it gives none.
use Rattle.std.proofs.Common.{◌∙◌, sym, ap, length, rules}
use Rattle.values.proofs.Laws.{clash}
use Rattle.book.proofs.Records.{ok_is, left_found, left_none}
use Rattle.book.proofs.Turns.{gave}
use Rattle.book.proofs.record.RecordsIterator.next.Goals as goal

pub returns-in_err-ok-clause-steps : goal.returns-in_err-ok-clause-steps
returns-in_err-ok-clause-steps c =
    let none = left_none _ _ _ c.next.result c.next.ensures (λ p s e. let w = rw e at c.in_err-ok.ensures.value in clash (cc)) in
    rw c.from_residual.ensures (none, none)

pub returns-in_err-place-clause-steps : goal.returns-in_err-place-clause-steps
returns-in_err-place-clause-steps c =
    let end = rw c.in_err-place.was at c.in_ok-ok.ensures.value in
    let none = left_none _ _ _ c.next.result c.next.ensures (λ p s e. let w = rw e at end in clash (cc)) in
    rw c.from_residual-in_err-place.ensures (none, none)

pub invariant_of-result : goal.invariant_of-result
invariant_of-result c =
    let is = ok_is c.next.result _ (rw c.in_ok-place.was at c.in_ok-ok.ensures.value) in
    record { sound = (gave _ _ _ _ _ (sym is ∙ c.next.ensures)).sound }

pub returns-clause-steps : goal.returns-clause-steps
returns-clause-steps c =
    let is = ok_is c.next.result _ (rw c.in_ok-place.was at c.in_ok-ok.ensures.value) in
    left_found _ _ _ _ _ (sym is ∙ c.next.ensures)

pub returns-clause-goes : goal.returns-clause-goes
returns-clause-goes c =
    let is = ok_is c.next.result _ (rw c.in_ok-place.was at c.in_ok-ok.ensures.value) in
    let shorter = ap length (left_found _ _ _ _ _ (sym is ∙ c.next.ensures)) in
    search rules
