-- Laying all copies is laying those left, from the place now.
use Rattle.std.proofs.Common.{◌≡◌, ◌-◌, ◌+◌, ◌*◌, ◌≤◌, length}
use Rattle.std.proofs.lemmas.List.Edits.{sets}
use Rattle.data.specs.Text.{copy_text, repeated, constant_text}
use Rattle.data.proofs.text.put_constant.Given as goal

abbrev pub invariant-loop : goal.invariant-loop
invariant-loop l =
    (l.at + (l.d.copies - l.counter) * l.d.length ≤ length l.fn.m)
    × (length l.m ≡ length l.fn.m)
    × (sets l.fn.m l.to (constant_text l.o l.d) ≡ sets l.m l.at (repeated (l.d.copies - l.counter) (copy_text l.o l.d)))
