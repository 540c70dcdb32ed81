-- `text::put_codes` meets its contract: a turn stores one code, and the run behind it is left.
use Rattle.std.proofs.Common.{◌∙◌, ◌+◌, ◌-◌}
use Rattle.std.proofs.Math.ListN.{length-set}
use Rattle.data.specs.Text.{codes_from}
use Rattle.data.proofs.Texts.{store_more, codes_more}
use Rattle.data.proofs.text.put_codes.Goals as goal

pub loop-i-preserved : goal.loop-i-preserved
loop-i-preserved c = (
  simp length-set c.loop-i.invariant.0,
  c.loop-i.invariant.1
      ∙ store_more c.loop-i.m c.args.to c.loop-i.i c.code_in.result (codes_from (c.args.n - c.loop-i.i) c.args.o.now c.loop-i.p)
      (codes_from (c.args.n - (c.loop-i.i + 1)) c.args.o.now c.next_in-p.result)
      (rw (c.code_in.ensures, c.next_in-p.ensures, c.quoted_at-q.ensures) (codes_more c.args.n c.loop-i.i c.args.o.now c.loop-i.p c.loop-i-test.true)),
)
