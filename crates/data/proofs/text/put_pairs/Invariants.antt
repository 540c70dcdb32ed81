-- Storing all pairs is storing those left, from the place now.
use Rattle.std.proofs.Common.{◌-◌, ◌≡◌, ◌+◌, ◌*◌, length}
use Rattle.std.proofs.lemmas.List.Edits.{sets}
use Rattle.data.specs.Text.{pairs_from}
use Rattle.data.proofs.text.put_pairs.Given as goal

abbrev pub invariant-loop-i : goal.invariant-loop-i
invariant-loop-i l = (length l.m ≡ length l.fn.m) × (sets l.fn.m l.to (pairs_from l.n l.o l.at) ≡ sets l.m (l.to + l.i) (pairs_from (l.n - l.i) l.o (l.at + 2 * l.i)))
