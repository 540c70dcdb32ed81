-- `text::put_fill` meets its contract: the part that is filled is a run of that byte.
use native.Mathlib.Omega.{arith}
use Rattle.std.proofs.Common.{◌≡◌, ◌+◌, ◌-◌, replicate, rules}
use Rattle.std.proofs.Math.ListN.{length-replicate}
use Rattle.data.proofs.Texts.{part-stored}
use Rattle.data.proofs.text.put_fill.Goals as goal

pub returns : goal.returns
returns c =
    let n : c.args.to + c.args.n - c.args.to ≡ c.args.n = omega arith in
    let filled : c.fill.new.self ≡ replicate c.args.n c.args.b = search rules in
    part-stored c.args.m.now c.args.to (c.args.to + c.args.n - c.args.to) _ (replicate c.args.n c.args.b) (omega arith) filled (rw n (length-replicate c.args.n c.args.b))
