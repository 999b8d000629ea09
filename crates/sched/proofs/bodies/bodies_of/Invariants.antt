use Rattle.std.proofs.Common.{◌≡◌, true, ◌++◌, map, drop, string_bytes}
use Rattle.std.specs.List.{list_all}
use Rattle.algo.specs.Parts.{change_of}
use Rattle.sched.specs.Subjects.{has_range_names}
use Rattle.sched.specs.Skeleton.{change_body, bodies_in, body_of}
use Rattle.sched.proofs.bodies.bodies_of.Given as goal

abbrev pub invariant-loop-update : goal.invariant-loop-update
invariant-loop-update l = record {
  named : list_all has_range_names (map change_of (drop l.update-index l.function.updates.items)) ≡ true;
  left : map body_of l.bodies.items ++ map (change_body (map string_bytes l.function.variables.items)) (map change_of (drop l.update-index l.function.updates.items)) ≡ bodies_in (map string_bytes l.function.variables.items) (map change_of l.function.updates.items);
}
