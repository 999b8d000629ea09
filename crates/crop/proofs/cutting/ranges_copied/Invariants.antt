use Rattle.std.proofs.Common.{◌≡◌, map, take}
use Rattle.algo.specs.Parts.{range_of}
use Rattle.crop.proofs.cutting.ranges_copied.Given as goal

abbrev pub invariant-loop-range : goal.invariant-loop-range
invariant-loop-range l = map range_of l.copied.items ≡ map range_of (take l.range-index l.ranges)
