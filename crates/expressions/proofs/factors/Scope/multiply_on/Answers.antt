-- `multiply_on` meets its contract: what is held now with the factors left is what was held with all of them.
use Rattle.std.proofs.Common.{◌≡◌, ◌+◌, arith, sym, ap, ◌∙◌}
use Rattle.letters.proofs.Laws.{is_byte, no_byte}
use Rattle.terms.specs.Terms.{term_at}
use Rattle.names.specs.Names.{find}
use Rattle.expressions.specs.Form.{end_of}
use Rattle.expressions.proofs.Reading.{end-within}
use Rattle.expressions.proofs.Turns.{held_more, held_fail, held-stop, read_ok}
use Rattle.expressions.proofs.factors.Scope.multiply_on.Goals as goal
use Rattle.std.specs.Prelude.{Ok}
use Rattle.std.specs.Result.{result_ok}

pub returns-in_err-t : goal.returns-in_err-t
returns-in_err-t c =
    c.from_residual.ensures
    ∙ sym (held_fail (find c.args.self.names.now) c.args.self.here c.args.self.columns.now c.loop-q.held c.loop-q.q (is_byte c.byte_at.ensures c.loop-q-test.true)
    (ap result_ok (sym c.read_term.ensures) ∙ sym c.ok.ensures.value ∙ c.in_err-t.was))
    ∙ c.loop-q.invariant

pub loop-q-smaller : goal.loop-q-smaller
loop-q-smaller c =
    let e : term_at c.args.self.columns.now (c.loop-q.q + 1) ≡ Ok (c.in_ok-t.t, c.in_ok-t.behind) = sym c.read_term.ensures ∙ read_ok _ c.read_term.result (sym c.ok.ensures.value ∙ c.in_ok-t.was) in
    omega (arith, end-within c.args.self.columns.now (c.loop-q.q + 1) c.in_ok-t.behind (ap end_of e))

pub loop-q-preserved : goal.loop-q-preserved
loop-q-preserved c =
    let e : term_at c.args.self.columns.now (c.loop-q.q + 1) ≡ Ok (c.in_ok-t.t, c.in_ok-t.behind) = sym c.read_term.ensures ∙ read_ok _ c.read_term.result (sym c.ok.ensures.value ∙ c.in_ok-t.was) in
    rw (c.multiplied-held.ensures, c.factor_of.ensures)
    (sym (held_more (find c.args.self.names.now) c.args.self.here c.args.self.columns.now c.loop-q.held c.loop-q.q c.in_ok-t.behind c.in_ok-t.t (is_byte c.byte_at.ensures c.loop-q-test.true) e)
    ∙ c.loop-q.invariant)

pub returns : goal.returns
returns c =
    sym (held-stop (find c.args.self.names.now) c.args.self.here c.args.self.columns.now c.loop-q.held c.loop-q.q (no_byte c.byte_at.ensures c.loop-q-test.false)) ∙ c.loop-q.invariant
