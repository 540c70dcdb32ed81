-- `text::put_pairs` meets its contract: a turn stores one pair, and the run behind it is left.
use native.Mathlib.Omega.{arith}
use Rattle.std.proofs.Common.{◌∙◌, ◌≡◌, ◌+◌, ◌-◌, ◌*◌}
use Rattle.std.proofs.Math.ListN.{length-set}
use Rattle.data.specs.Text.{pairs_from}
use Rattle.data.proofs.Texts.{store_more, pairs_more}
use Rattle.data.proofs.text.put_pairs.Goals as goal

pub loop-i-preserved : goal.loop-i-preserved
loop-i-preserved c =
    let p = c.args.at + 2 * c.loop-i.i in
    let next : c.args.at + 2 * (c.loop-i.i + 1) ≡ p + 2 = omega arith in (
      simp length-set c.loop-i.invariant.0,
      c.loop-i.invariant.1
          ∙ store_more c.loop-i.m c.args.to c.loop-i.i c.pair_at.result (pairs_from (c.args.n - c.loop-i.i) c.args.o.now p)
          (pairs_from (c.args.n - (c.loop-i.i + 1)) c.args.o.now (c.args.at + 2 * (c.loop-i.i + 1)))
          (rw (c.pair_at.ensures, next) (pairs_more c.args.n c.loop-i.i c.args.o.now p c.loop-i-test.true)),
    )
