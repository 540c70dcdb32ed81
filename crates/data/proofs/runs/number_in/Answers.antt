-- `runs::number_in` meets its contract: a turn appends one digit.
use Rattle.std.proofs.Common.{◌∙◌, ◌≡◌, ◌+◌, ◌*◌, ap}
use Rattle.letters.specs.Letters.{digit_of}
use Rattle.terms.specs.Terms.{with_digit}
use Rattle.data.specs.Runs.{told}
use Rattle.data.proofs.Turns.{told-fits, number_more}
use Rattle.data.proofs.runs.number_in.Goals as goal

pub loop-i-preserved : goal.loop-i-preserved
loop-i-preserved c =
    let m : c.append_digit-v.result ≡ told (with_digit 10 c.args.s.now c.loop-i.i c.loop-i.v) =
    c.append_digit-v.ensures ∙ ap (λ d. told (c.loop-i.v * 10 + d)) (c.digit_of.ensures.0 ∙ ap digit_of c.byte_at.ensures) in (
      rw m (told-fits (with_digit 10 c.args.s.now c.loop-i.i c.loop-i.v)),
      number_more c.args.end c.args.s.now c.loop-i.i c.loop-i.v c.append_digit-v.result c.loop-i-test.true m ∙ c.loop-i.invariant.1,
    )
