use Rattle.std.proofs.Common.{◌≡◌, take, map}
use Rattle.algo.specs.Parts.{range_of}
use Rattle.crop.specs.Inference.Needed.{with_domain}
use Rattle.crop.proofs.regions.with_domain.Given as goal

abbrev pub invariant-loop-range : goal.invariant-loop-range
invariant-loop-range l = l.made ≡ with_domain l.region (map range_of (take l.range-index l.ranges))
