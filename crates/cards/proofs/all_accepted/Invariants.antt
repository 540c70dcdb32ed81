-- All columns are accepted if those left are.
use Rattle.std.proofs.Common.{◌≡◌}
use Rattle.std.specs.Slice.Iter.{chunks_rest}
use Rattle.cards.specs.Fields.{all_accepted}
use Rattle.cards.proofs.all_accepted.Given as goal

abbrev pub invariant-loop-part : goal.invariant-loop-part
invariant-loop-part l = all_accepted l.s ≡ all_accepted (chunks_rest l.part-iterator)
