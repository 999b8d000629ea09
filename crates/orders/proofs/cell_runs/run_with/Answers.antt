use Rattle.std.proofs.Common.{◌≡◌, ◌+◌, ◌-◌, ◌≤◌, leb, arith, rules}
use Rattle.std.proofs.lemmas.List.Sorted.{IsPartitionPoint-from_clause, IsPartitionedBy-leb}
use Rattle.orders.specs.declared.cell_runs.CellRun.{CellRun}
use Rattle.orders.proofs.RunLists.{begun, counts_rise, has_place}
use Rattle.orders.proofs.cell_runs.run_with.Goals as goal

pub overflow_sub-result : goal.overflow_sub-result
overflow_sub-result c =
    let runs = c.args.runs.now in
    let place = c.args.place in
    let parted = IsPartitionedBy-leb (λ (r : CellRun). r.before) runs place (counts_rise 0 runs c.requires.counted) in
    let point = IsPartitionPoint-from_clause (λ (r : CellRun). leb r.before place) _ _ c.partition_point-behind.ensures.partitioned parted (λ a r q k. search rules) in
    begun runs place c.partition_point-behind.result c.requires.counted c.requires.place point

pub returns : goal.returns
returns c =
    let runs = c.args.runs.now in
    let place = c.args.place in
    let behind = c.partition_point-behind.result in
    let parted = IsPartitionedBy-leb (λ (r : CellRun). r.before) runs place (counts_rise 0 runs c.requires.counted) in
    let point = IsPartitionPoint-from_clause (λ (r : CellRun). leb r.before place) _ _ c.partition_point-behind.ensures.partitioned parted (λ a r q k. search rules) in
    let some : 1 ≤ behind = begun runs place behind c.requires.counted c.requires.place point in
    has_place runs place behind (behind - 1) (let e : behind ≡ behind - 1 + 1 = omega (arith, some) in e) c.requires.counted c.requires.place c.partition_point-behind.ensures.bound point (record { first = 0; count = 0; before = 0 })
