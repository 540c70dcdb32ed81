-- `expression_form` meets its contract: what is behind the products so far ends where the whole does.
use Rattle.std.proofs.Common.{◌≡◌, ◌+◌, arith, sym, ap, ◌∙◌, true, false}
use Rattle.std.proofs.lemmas.Result.{err_from_is_err_and}
use Rattle.expressions.specs.Form.{joins}
use Rattle.expressions.proofs.Reading.{product-within, joins-inside, form_behind, form_products, form_on}
use Rattle.expressions.proofs.form.expression_form.Goals as goal

pub returns-in_err-q : goal.returns-in_err-q
returns-in_err-q c =
    let p = err_from_is_err_and c.from_residual.result c.from_residual.ensures.1 in
    rw (p.1, p.2) (sym (form_products c.args.s.now false c.args.at ∙ ap (form_behind c.args.s.now) (sym c.product_form.ensures ∙ c.in_err-q.was)))

pub loop-q-init : goal.loop-q-init
loop-q-init c = sym (form_products c.args.s.now false c.args.at ∙ ap (form_behind c.args.s.now) (sym c.product_form.ensures ∙ c.in_ok-q.was))

pub returns-in_err-q-2 : goal.returns-in_err-q-2
returns-in_err-q-2 c =
    let j : joins c.args.s.now c.loop-q.q ≡ true = sym c.joins_at.ensures ∙ c.loop-q-test.true in
    let p = err_from_is_err_and c.from_residual-in_err-q-2.result c.from_residual-in_err-q-2.ensures.1 in
    rw (p.1, p.2) (sym (form_on c.args.s.now c.loop-q.q j ∙ ap (form_behind c.args.s.now) (sym c.product_form-in-loop-q.ensures ∙ c.in_err-q-2.was)) ∙ c.loop-q.invariant)

pub loop-q-smaller : goal.loop-q-smaller
loop-q-smaller c =
    let j : joins c.args.s.now c.loop-q.q ≡ true = sym c.joins_at.ensures ∙ c.loop-q-test.true in
    omega (arith, product-within c.args.s.now (c.loop-q.q + 1) c.in_ok-q-2.q (sym c.product_form-in-loop-q.ensures ∙ c.in_ok-q-2.was), joins-inside c.args.s.now c.loop-q.q j)

pub loop-q-preserved : goal.loop-q-preserved
loop-q-preserved c =
    let j : joins c.args.s.now c.loop-q.q ≡ true = sym c.joins_at.ensures ∙ c.loop-q-test.true in
    sym (form_on c.args.s.now c.loop-q.q j ∙ ap (form_behind c.args.s.now) (sym c.product_form-in-loop-q.ensures ∙ c.in_ok-q-2.was)) ∙ c.loop-q.invariant

pub returns : goal.returns
returns c =
    let j : joins c.args.s.now c.loop-q.q ≡ false = sym c.joins_at.ensures ∙ c.loop-q-test.false in
    let i = c.loop-q.invariant in
    rw j at i
