-- `read_digits` meets its contract: each turn takes a digit more, as the definition does.
use native.Mathlib.Omega.{arith}
use borrow.Author.Tests.{lt-ltb, le-leb, lt-leb}
use Rattle.std.proofs.Common.{◌≡◌, ◌+◌, ◌-◌, ◌*◌, true, get_or, sym, ap, ◌∙◌}
use Rattle.letters.specs.Letters.{digit_of}
use Rattle.letters.proofs.Laws.{inside-digit}
use Rattle.terms.specs.Terms.{digit_at, with_digit}
use Rattle.terms.proofs.Laws.{digits_more, digits_over}
use Rattle.terms.proofs.read_digits.Goals as goal

pub overflow_add-digits : goal.overflow_add-digits
overflow_add-digits c =
    let i = c.loop.digits.next in
    let digit : c.digit_of-d.result ≡ digit_of (get_or c.args.s.now i 0) = c.digit_of-d.ensures.0 ∙ ap digit_of c.byte_at.ensures in
    omega (arith, inside-digit c.args.s.now i (omega arith))

pub loop-preserved : goal.loop-preserved
loop-preserved c =
    let l = c.loop.digits in
    let digit : c.digit_of-d.result ≡ digit_of (get_or c.args.s.now l.next 0) = c.digit_of-d.ensures.0 ∙ ap digit_of c.byte_at.ensures in
    let more : c.appended-more.result ≡ with_digit c.args.base c.args.s.now l.next l.value = c.appended-more.ensures ∙ ap (λ d. l.value * c.args.base + d) digit in
    let there : digit_at c.args.base c.args.s.now l.next ≡ true = lt-ltb _ _ (rw digit at c.if-base-d.false) in
    let left : c.args.most - c.loop.counter - 1 ≡ c.args.most - (c.loop.counter + 1) = omega arith in
    let turn = digits_more (c.args.most - c.loop.counter) c.args.base c.args.s.now l.next l.value (omega arith) there (le-leb _ _ (rw more at c.if-more-gt65535.false)) in
    (rw (← left, more) (sym turn ∙ c.loop.invariant.0), c.if-more-gt65535.false)

pub returns-then-more-gt65535 : goal.returns-then-more-gt65535
returns-then-more-gt65535 c =
    let l = c.loop.digits in
    let digit : c.digit_of-d.result ≡ digit_of (get_or c.args.s.now l.next 0) = c.digit_of-d.ensures.0 ∙ ap digit_of c.byte_at.ensures in
    let more : c.appended-more.result ≡ with_digit c.args.base c.args.s.now l.next l.value = c.appended-more.ensures ∙ ap (λ d. l.value * c.args.base + d) digit in
    let over = digits_over (c.args.most - c.loop.counter) c.args.base c.args.s.now l.next l.value (lt-leb _ _ (rw more at c.if-more-gt65535.true)) in
    (sym over ∙ c.loop.invariant.0, c.loop.invariant.1)
