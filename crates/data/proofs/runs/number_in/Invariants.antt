-- What is told of the number with the digits left is what is told of the whole.
use Rattle.std.proofs.Common.{◌-◌, ◌≡◌, ◌≤◌}
use Rattle.data.specs.Runs.{told, number_from}
use Rattle.data.proofs.runs.number_in.Given as goal

abbrev pub invariant-loop-i : goal.invariant-loop-i
invariant-loop-i l = (l.v ≤ 65536) × (told (number_from (l.end - l.i) l.s l.i l.v) ≡ told (number_from (l.end - l.at) l.s l.at 0))
