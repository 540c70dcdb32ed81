-- `evaluate` meets its contract: the sum so far with the products left is the whole; and no more relocatable terms than columns.
use Rattle.std.proofs.Common.{◌≡◌, ◌+◌, arith, sym, ap, ◌∙◌}
use Rattle.std.proofs.lemmas.Result.{err_from_is_err_and}
use Rattle.std.specs.Prelude.{Some, None, Err}
use Rattle.std.specs.Result.{result_ok}
use Rattle.names.specs.Names.{find}
use Rattle.expressions.specs.declared.Fault.TheVariants.{Malformed}
use Rattle.expressions.specs.Form.{product_at}
use Rattle.expressions.specs.Steps.{held_at, ended}
use Rattle.expressions.proofs.Reading.{joins-inside}
use Rattle.expressions.proofs.Turns.{product_inside, run_more, run_last, run_none, run_whole, counts_on, told}
use Rattle.expressions.proofs.factors.Scope.evaluate.Goals as goal

pub returns-in_err-h : goal.returns-in_err-h
returns-in_err-h c =
    let f = find c.args.self.names.now in
    let p = err_from_is_err_and c.from_residual.result c.from_residual.ensures.1 in
    let m : held_at (find c.args.self.names.now) c.args.self.here (product_at c.args.self.columns.now c.loop-h.p) ≡ None = sym c.multiply.ensures ∙ c.ok_or.ensures.ok_part ∙ ap result_ok c.in_err-h.was in
    rw (p.1, p.2)
    (ap Err (told c.multiply.result Malformed c.in_err-h.field-0.0 (sym c.ok_or.ensures.value ∙ c.in_err-h.was))
    ∙ sym (run_none f c.args.self.here c.args.self.columns.now c.loop-h.sum c.loop-h.minus c.loop-h.p m)
    ∙ c.loop-h.invariant.1
    ∙ run_whole f c.args.self.here c.args.self.columns.now c.args.at)

pub run_on-sum-requires : goal.run_on-sum-requires
run_on-sum-requires c =
    let m : held_at (find c.args.self.names.now) c.args.self.here (product_at c.args.self.columns.now c.loop-h.p) ≡ Some (c.in_ok-h.h, c.in_ok-h.q) = sym c.multiply.ensures ∙ c.ok_or.ensures.ok_part ∙ ap result_ok c.in_ok-h.was in
    let w = product_inside (find c.args.self.names.now) c.args.self.here c.args.self.columns.now c.loop-h.p c.in_ok-h.h c.in_ok-h.q m in
    (omega arith, omega arith)

pub loop-h-smaller : goal.loop-h-smaller
loop-h-smaller c =
    let m : held_at (find c.args.self.names.now) c.args.self.here (product_at c.args.self.columns.now c.loop-h.p) ≡ Some (c.in_ok-h.h, c.in_ok-h.q) = sym c.multiply.ensures ∙ c.ok_or.ensures.ok_part ∙ ap result_ok c.in_ok-h.was in
    let w = product_inside (find c.args.self.names.now) c.args.self.here c.args.self.columns.now c.loop-h.p c.in_ok-h.h c.in_ok-h.q m in
    omega (arith, joins-inside c.args.self.columns.now c.in_ok-h.q (sym c.joins_at.ensures ∙ c.if-not-joins_at.false))

pub loop-h-preserved : goal.loop-h-preserved
loop-h-preserved c =
    let f = find c.args.self.names.now in
    let m : held_at (find c.args.self.names.now) c.args.self.here (product_at c.args.self.columns.now c.loop-h.p) ≡ Some (c.in_ok-h.h, c.in_ok-h.q) = sym c.multiply.ensures ∙ c.ok_or.ensures.ok_part ∙ ap result_ok c.in_ok-h.was in
    let w = product_inside f c.args.self.here c.args.self.columns.now c.loop-h.p c.in_ok-h.h c.in_ok-h.q m in
    rw (c.run_on-sum.ensures, c.byte_at-minus.ensures) (
      counts_on c.loop-h.sum c.loop-h.minus c.in_ok-h.h c.loop-h.p (c.in_ok-h.q + 1) c.loop-h.invariant.0 (omega arith),
      sym (run_more f c.args.self.here c.args.self.columns.now c.loop-h.sum c.loop-h.minus c.loop-h.p c.in_ok-h.h c.in_ok-h.q m (sym c.joins_at.ensures ∙ c.if-not-joins_at.false)) ∙ c.loop-h.invariant.1,
    )

pub returns-then-not-joins_at : goal.returns-then-not-joins_at
returns-then-not-joins_at c =
    let f = find c.args.self.names.now in
    let m : held_at (find c.args.self.names.now) c.args.self.here (product_at c.args.self.columns.now c.loop-h.p) ≡ Some (c.in_ok-h.h, c.in_ok-h.q) = sym c.multiply.ensures ∙ c.ok_or.ensures.ok_part ∙ ap result_ok c.in_ok-h.was in
    c.end.ensures
    ∙ ap ended c.run_on-sum.ensures
    ∙ sym (run_last f c.args.self.here c.args.self.columns.now c.loop-h.sum c.loop-h.minus c.loop-h.p c.in_ok-h.h c.in_ok-h.q m (sym c.joins_at.ensures ∙ c.if-not-joins_at.true))
    ∙ c.loop-h.invariant.1
    ∙ run_whole f c.args.self.here c.args.self.columns.now c.args.at
