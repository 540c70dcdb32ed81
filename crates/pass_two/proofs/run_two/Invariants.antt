-- Where the pass stands before the cards that are left, and what it has laid so far.
use Rattle.std.proofs.Common.{drop}
use Rattle.names.specs.Names.{find}
use Rattle.pass_two.proofs.Walk.{Walked}
use Rattle.pass_two.proofs.run_two.Given as goal

abbrev pub invariant-loop-i : goal.invariant-loop-i
invariant-loop-i l = Walked l.source (find l.names) l.writes l.fn.out (drop l.i l.source) l.out l.c l.entry l.i l.to
