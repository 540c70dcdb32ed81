-- Laying all copies is laying those left, from the place now.
use Rattle.std.proofs.Common.{◌≡◌, ◌-◌, ◌+◌, ◌≤◌, length}
use Rattle.std.proofs.lemmas.List.Edits.{sets}
use Rattle.encode.specs.Pieces.{text_of, address_pieces, copied}
use Rattle.encode.proofs.put_addresses.Given as goal

abbrev pub invariant-loop : goal.invariant-loop
invariant-loop l =
    (l.at + length (text_of (copied (l.copies - l.counter) (address_pieces l.size l.v))) ≤ length l.fn.m)
    × (sets l.fn.m l.to (text_of (copied l.copies (address_pieces l.size l.v))) ≡ sets l.m l.at (text_of (copied (l.copies - l.counter) (address_pieces l.size l.v))))
