use Rattle.std.proofs.Common.{◌≡◌, ◌*◌, map, drop}
use Rattle.meaning.specs.Reduction.{size}
use Rattle.algo.specs.Scoping.Ranges.{unnamed}
use Rattle.algo.proofs.scoping.ranges.size_within.Given as goal

abbrev pub invariant-loop-range : goal.invariant-loop-range
invariant-loop-range l = l.points * size (map unnamed (drop l.range-index l.ranges)) ≡ size (map unnamed l.ranges)
