use Rattle.std.proofs.Common.{◌≡◌, true, ◌++◌, map, drop}
use Rattle.std.specs.List.{list_all}
use Rattle.algo.specs.Parts.{range_of}
use Rattle.sched.specs.Subjects.{is_name, range_names}
use Rattle.sched.specs.Skeleton.{range_turning}
use Rattle.sched.proofs.bodies.range_turnings.Given as goal

abbrev pub invariant-loop-range : goal.invariant-loop-range
invariant-loop-range l = record {
  named : list_all is_name (range_names (map range_of (drop l.range-index l.ranges))) ≡ true;
  left : l.turnings.items ++ map range_turning (map range_of (drop l.range-index l.ranges)) ≡ map range_turning (map range_of l.ranges);
}
