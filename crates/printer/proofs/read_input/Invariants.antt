-- What was read lies inside the buffer.
use Rattle.std.proofs.Common.{length, ◌-◌, ◌≤◌}
use Rattle.printer.proofs.read_input.Given as goal

abbrev pub invariant-loop-have : goal.invariant-loop-have
invariant-loop-have l = l.have ≤ length l.buffer

abbrev pub decreases-loop-have : goal.decreases-loop-have
decreases-loop-have l = length l.initial.buffer - l.have
