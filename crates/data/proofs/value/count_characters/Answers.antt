-- `value::count_characters` meets its contract: a turn passes one character, which ends behind its position and inside.
use Rattle.std.proofs.Common.{arith, ◌≡◌, ◌∙◌, ◌-◌, suc, length, refl, sym, ap, Ok}
use Rattle.std.proofs.lemmas.Result.{err_from_is_err_and}
use borrow.Author.Tests.{eq-eqb, ne_eqb}
use Rattle.terms.specs.declared.Quoted.TheVariants.{One, Closed}
use Rattle.terms.specs.Terms.{quoted_at}
use Rattle.terms.proofs.Within.{quoted_within}
use Rattle.data.specs.Form.{characters_at}
use Rattle.data.proofs.Turns.{characters_more, characters_closed, characters_none}
use Rattle.data.proofs.value.count_characters.Goals as goal

pub loop-next-init : goal.loop-next-init
unfolding characters_at
loop-next-init c = (omega arith, (suc (length c.args.s.now), omega arith, omega arith, refl))

pub returns-in_err-next : goal.returns-in_err-next
returns-in_err-next c =
    let (f, pos, w, e) = c.loop-next.invariant.1 in
    let p = err_from_is_err_and c.from_residual.result c.from_residual.ensures.1 in
    rw (p.1, p.2) (sym (characters_none c.args.s.now c.loop-next.p c.in_err-next.field-0.0 c.loop-next.n f pos (sym c.quoted_at.ensures ∙ c.in_err-next.was)) ∙ e)

pub overflow_add-n : goal.overflow_add-n
overflow_add-n c =
    let next = c.in_ok-next.field-0.1 in
    let r : quoted_at c.args.s.now c.loop-next.p ≡ Ok (One c.in-One-default.field-0-0, next) = sym c.quoted_at.ensures ∙ c.in_ok-next.was ∙ ap (λ q. Ok (q, next)) c.in-One-default.is-0 in
    let w = rw r at (quoted_within c.args.s.now c.loop-next.p) in
    omega (arith, w.0, w.1)

pub loop-next-smaller : goal.loop-next-smaller
loop-next-smaller c =
    let next = c.in_ok-next.field-0.1 in
    let r : quoted_at c.args.s.now c.loop-next.p ≡ Ok (One c.in-One-default.field-0-0, next) = sym c.quoted_at.ensures ∙ c.in_ok-next.was ∙ ap (λ q. Ok (q, next)) c.in-One-default.is-0 in
    let w = rw r at (quoted_within c.args.s.now c.loop-next.p) in
    omega (arith, w.0, w.1)

pub loop-next-preserved : goal.loop-next-preserved
loop-next-preserved c =
    let (f, pos, w, e) = c.loop-next.invariant.1 in
    let next = c.in_ok-next.field-0.1 in
    let r : quoted_at c.args.s.now c.loop-next.p ≡ Ok (One c.in-One-default.field-0-0, next) = sym c.quoted_at.ensures ∙ c.in_ok-next.was ∙ ap (λ q. Ok (q, next)) c.in-One-default.is-0 in
    let o = rw r at (quoted_within c.args.s.now c.loop-next.p) in (
      omega (arith, o.0),
      (f - 1, omega (arith, o.0, o.1), omega (arith, o.0), sym (characters_more c.args.s.now c.loop-next.p next c.loop-next.n f _ pos r) ∙ e),
    )

pub returns-in-Closed-default : goal.returns-in-Closed-default
returns-in-Closed-default c =
    let (f, pos, w, e) = c.loop-next.invariant.1 in
    let next = c.in_ok-next.field-0.1 in
    let r : quoted_at c.args.s.now c.loop-next.p ≡ Ok (Closed, next) = sym c.quoted_at.ensures ∙ c.in_ok-next.was ∙ ap (λ q. Ok (q, next)) c.in-Closed-default.is-0 in
    sym (rw (eq-eqb _ _ c.if-n-eq0.true) at (sym e ∙ characters_closed c.args.s.now c.loop-next.p next c.loop-next.n f pos r))

pub returns-in-Closed-default-2 : goal.returns-in-Closed-default-2
returns-in-Closed-default-2 c =
    let (f, pos, w, e) = c.loop-next.invariant.1 in
    let next = c.in_ok-next.field-0.1 in
    let r : quoted_at c.args.s.now c.loop-next.p ≡ Ok (Closed, next) = sym c.quoted_at.ensures ∙ c.in_ok-next.was ∙ ap (λ q. Ok (q, next)) c.in-Closed-default-2.is-0 in
    ap (λ k. Ok (k, next)) c.tell.ensures ∙ sym (rw (ne_eqb _ _ c.if-n-eq0.false) at (sym e ∙ characters_closed c.args.s.now c.loop-next.p next c.loop-next.n f pos r))
