use Rattle.std.proofs.Common.{◌≡◌, drop, map}
use Rattle.plan.specs.View.{coordinate_of}
use Rattle.algo.specs.Parts.{range_of}
use Rattle.validation.specs.Stored.Stored.{are_for}
use Rattle.validation.proofs.stored.known.are_for_ranges.Given as goal

abbrev pub invariant-loop-i : goal.invariant-loop-i
invariant-loop-i l = are_for (map coordinate_of (drop l.i l.coordinates)) (map (λ d. d.variable) (map range_of (drop l.i l.ranges))) ≡ are_for (map coordinate_of l.coordinates) (map (λ d. d.variable) (map range_of l.ranges))
