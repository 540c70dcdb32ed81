-- The records from the first on are those of the book.
use Rattle.book.proofs.Records.{all_left}
use Rattle.book.proofs.record.Records.of.Goals as goal

pub returns : goal.returns
returns c =
    let (e, q) = c.requires in
    rw (c.first.ensures.0, c.first.ensures.1) (all_left _ e q)
