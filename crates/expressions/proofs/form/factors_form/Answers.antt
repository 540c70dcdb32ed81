-- `factors_form` meets its contract: the factors from here on end where the whole do.
use Rattle.std.proofs.Common.{◌+◌, arith, sym, ap, ◌∙◌}
use Rattle.std.proofs.lemmas.Result.{err_from_is_err_and}
use Rattle.letters.proofs.Laws.{is_byte, no_byte}
use Rattle.expressions.specs.Form.{form_of, end_of}
use Rattle.expressions.proofs.Reading.{end-within, form_factors, factors_fail, factors_stop}
use Rattle.expressions.proofs.form.factors_form.Goals as goal

pub returns-in_err-behind : goal.returns-in_err-behind
returns-in_err-behind c =
    let p = err_from_is_err_and c.from_residual.result c.from_residual.ensures.1 in
    rw (p.1, p.2)
    (sym (ap form_of (factors_fail c.args.s.now c.loop-q.q c.in_err-behind.field-0.0 (is_byte c.byte_at.ensures c.loop-q-test.true)
    (ap end_of (sym c.read_term.ensures ∙ c.in_err-behind.was))))
    ∙ c.loop-q.invariant)

pub loop-q-smaller : goal.loop-q-smaller
loop-q-smaller c =
    omega (arith, end-within c.args.s.now (c.loop-q.q + 1) c.in_ok-behind.behind (ap end_of (sym c.read_term.ensures ∙ c.in_ok-behind.was)))

pub loop-q-preserved : goal.loop-q-preserved
loop-q-preserved c =
    sym (form_factors c.args.s.now c.loop-q.q c.in_ok-behind.behind (is_byte c.byte_at.ensures c.loop-q-test.true) (ap end_of (sym c.read_term.ensures ∙ c.in_ok-behind.was)))
    ∙ c.loop-q.invariant

pub returns : goal.returns
returns c = sym (ap form_of (factors_stop c.args.s.now c.loop-q.q (no_byte c.byte_at.ensures c.loop-q-test.false))) ∙ c.loop-q.invariant
