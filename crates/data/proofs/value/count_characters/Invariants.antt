-- The characters from here on, behind those counted, are the whole; and a bound is left that is enough.
use Rattle.std.proofs.Common.{◌≡◌, ◌≤◌, ℕ, ◌+◌, ◌-◌, ◌<◌, length}
use Rattle.data.specs.Form.{characters_from, characters_at}
use Rattle.data.proofs.value.count_characters.Given as goal

abbrev pub invariant-loop-next : goal.invariant-loop-next
invariant-loop-next l = (l.n ≤ l.p) × ((f : ℕ) × (0 < f) × (length l.s < f + l.p) × (characters_from f l.s l.p l.n ≡ characters_at l.s l.at))

abbrev pub decreases-loop-next : goal.decreases-loop-next
decreases-loop-next l = length l.s - l.p
