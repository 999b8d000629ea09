use Rattle.std.proofs.Common.{◌≡◌, ◌*◌, drop, map}
use Rattle.meaning.specs.Reduction.{size}
use Rattle.algo.specs.Parts.{range_of}
use Rattle.plain.proofs.reduction.size.Given as goal

abbrev pub invariant-loop-range : goal.invariant-loop-range
invariant-loop-range l = l.points * size (map range_of (drop l.range-index l.ranges)) ≡ size (map range_of l.ranges)
