use Rattle.std.proofs.Common.{length, ◌-◌, ◌≡◌, false}
use Rattle.cards.specs.Fields.{operand_end}
use Rattle.cards.proofs.end_of_operand.Given as goal

abbrev pub invariant-loop-i : goal.invariant-loop-i
invariant-loop-i l = (operand_end (length l.s - l.i) l.inside l.s l.i ≡ operand_end (length l.s - l.at) false l.s l.at)
