-- The layout of the whole is that of the records left.
use Rattle.std.proofs.Common.{length, ◌-◌}
use Rattle.book.proofs.Turns.{LayoutLeft}
use Rattle.book.proofs.read_layout.Given as goal

abbrev pub invariant-loop-behind : goal.invariant-loop-behind
invariant-loop-behind l = LayoutLeft l.book l.entry l.cursor.at l.cursor.card

abbrev pub decreases-loop-behind : goal.decreases-loop-behind
decreases-loop-behind l = length l.book - l.cursor.at
