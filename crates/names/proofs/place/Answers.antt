-- The records whose numbers are lower come first, and `partition_point` counts them.
use Rattle.std.proofs.Common.{rules, ltb}
use Rattle.std.proofs.lemmas.List.Sorted.{IsPartitionPoint-from_clause}
use Rattle.names.specs.Table.{number_at}
use Rattle.names.proofs.Table.{records-parted, place-found}
use Rattle.names.proofs.place.Goals as goal

pub returns : goal.returns
returns c =
    let a = c.args in
    let are = c.as_chunks.ensures.front in
    let parted = records-parted a.count a.t.now a.number _ are c.requires.0 c.requires.1 in
    place-found a.count a.t.now a.number _ are c.requires.0 c.requires.1 _ c.partition_point.ensures.bound
    (IsPartitionPoint-from_clause (λ r. ltb (number_at r 0) a.number) _ _ c.partition_point.ensures.partitioned parted (λ x r q k. search rules))
