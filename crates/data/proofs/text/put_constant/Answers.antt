-- `text::put_constant` meets its contract: a turn lays one copy, and those behind it are left.
use native.Mathlib.Omega.{arith}
use Rattle.std.proofs.Common.{◌∙◌, ◌≡◌, ◌+◌, ◌-◌, sym}
use Rattle.data.specs.Text.{copy_text}
use Rattle.data.proofs.Texts.{copy_length, copies_more, copies_done, product-more}
use Rattle.data.proofs.Fine.{constant-fine}
use Rattle.data.proofs.text.put_constant.Goals as goal

pub loop-preserved : goal.loop-preserved
loop-preserved c =
    let d = c.args.d in
    let left = d.copies - c.loop.counter in
    let less : left - 1 ≡ d.copies - (c.loop.counter + 1) = omega arith in
    let w = product-more left d.length (omega arith) in
    rw (← less) (
      omega arith,
      c.put_copy.auto.m ∙ c.loop.invariant.1,
      c.loop.invariant.2
          ∙ copies_more c.loop.m c.put_copy.new.m c.loop.at left d.length (copy_text c.args.o.now d) (omega arith) c.put_copy.ensures
          (copy_length c.args.o.now d (constant-fine d c.requires.0).room),
    )

pub returns : goal.returns
returns c =
    sym (c.loop.invariant.2 ∙ copies_done c.loop.m c.loop.at (c.args.d.copies - c.loop.counter) (copy_text c.args.o.now c.args.d) (omega arith))
