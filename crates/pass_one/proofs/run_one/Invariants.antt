-- The pass over all cards is the pass over those left, from the state now.
use Rattle.pass_one.proofs.Laws.{Ran}
use Rattle.pass_one.proofs.run_one.Given as goal

abbrev pub invariant-loop-i : goal.invariant-loop-i
invariant-loop-i l = Ran l.source l.fn.table l.table l.p l.i
