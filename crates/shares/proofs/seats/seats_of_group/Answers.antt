use Rattle.std.proofs.Common.{leb, ltb, rules}
use Rattle.std.proofs.lemmas.List.Sorted.{IsPartitionPoint-from_clause, IsPartitionedBy-leb, IsPartitionedBy-ltb}
use Rattle.shares.specs.declared.seats.Seat.{Seat}
use Rattle.shares.proofs.Rising.{in_order, is_stretch}
use Rattle.shares.proofs.seats.seats_of_group.Goals as goal

pub slice_bounds-result-count : goal.slice_bounds-result-count
slice_bounds-result-count c =
    let xs = c.args.seats.now in
    let g = c.args.group in
    let low_parted = IsPartitionedBy-ltb (λ (y : Seat). y.group) xs g c.requires in
    let low = IsPartitionPoint-from_clause (λ (y : Seat). ltb y.group g) _ _ c.partition_point-first.ensures.partitioned low_parted (λ a r q k. search rules) in
    let high_parted = IsPartitionedBy-leb (λ (y : Seat). y.group) xs g c.requires in
    let high = IsPartitionPoint-from_clause (λ (y : Seat). leb y.group g) _ _ c.partition_point-end.ensures.partitioned high_parted (λ a r q k. search rules) in
    in_order g xs c.partition_point-first.result c.partition_point-end.result c.partition_point-first.ensures.bound c.partition_point-end.ensures.bound low high

pub slice_bounds-result-start : goal.slice_bounds-result-start
slice_bounds-result-start c =
    let xs = c.args.seats.now in
    let g = c.args.group in
    let low_parted = IsPartitionedBy-ltb (λ (y : Seat). y.group) xs g c.requires in
    let low = IsPartitionPoint-from_clause (λ (y : Seat). ltb y.group g) _ _ c.partition_point-first.ensures.partitioned low_parted (λ a r q k. search rules) in
    let high_parted = IsPartitionedBy-leb (λ (y : Seat). y.group) xs g c.requires in
    let high = IsPartitionPoint-from_clause (λ (y : Seat). leb y.group g) _ _ c.partition_point-end.ensures.partitioned high_parted (λ a r q k. search rules) in
    in_order g xs c.partition_point-first.result c.partition_point-end.result c.partition_point-first.ensures.bound c.partition_point-end.ensures.bound low high

pub returns : goal.returns
returns c =
    let xs = c.args.seats.now in
    let g = c.args.group in
    let low_parted = IsPartitionedBy-ltb (λ (y : Seat). y.group) xs g c.requires in
    let low = IsPartitionPoint-from_clause (λ (y : Seat). ltb y.group g) _ _ c.partition_point-first.ensures.partitioned low_parted (λ a r q k. search rules) in
    let high_parted = IsPartitionedBy-leb (λ (y : Seat). y.group) xs g c.requires in
    let high = IsPartitionPoint-from_clause (λ (y : Seat). leb y.group g) _ _ c.partition_point-end.ensures.partitioned high_parted (λ a r q k. search rules) in
    is_stretch g xs c.partition_point-first.result c.partition_point-end.result c.partition_point-first.ensures.bound c.partition_point-end.ensures.bound low high
