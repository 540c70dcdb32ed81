-- Laying all offsets is laying those left, from the place now.
use Rattle.std.proofs.Common.{◌-◌, ◌≡◌, ◌+◌, ◌*◌}
use Rattle.std.proofs.lemmas.List.Edits.{sets}
use Rattle.encode.specs.Steps.{two_apart}
use Rattle.encode.proofs.put_address_fields.Given as goal

abbrev pub invariant-loop-i : goal.invariant-loop-i
invariant-loop-i l = sets l.fn.m l.to (two_apart l.count 0) ≡ sets l.m (l.to + l.i) (two_apart (l.count - l.i) (2 * l.i))
