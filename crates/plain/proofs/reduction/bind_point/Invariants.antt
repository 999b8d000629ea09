use Rattle.std.proofs.Common.{◌≡◌, ◌++◌, drop, map}
use Rattle.meaning.specs.Reduction.{point}
use Rattle.algo.specs.Parts.{range_of}
use Rattle.plain.specs.Works.{bound_name, bound_number}
use Rattle.plain.specs.Stages.{range_name}
use Rattle.plain.proofs.reduction.bind_point.Given as goal

abbrev pub invariant-loop-range : goal.invariant-loop-range
invariant-loop-range l = record {
  names : map bound_name l.bindings.items ++ map range_name (map range_of (drop l.range-index l.ranges)) ≡ map bound_name l.initial.bindings.items ++ map range_name (map range_of l.ranges);
  numbers : map bound_number l.bindings.items ++ point (map range_of (drop l.range-index l.ranges)) l.rest ≡ map bound_number l.initial.bindings.items ++ point (map range_of l.ranges) l.number;
}
