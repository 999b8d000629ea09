use Rattle.std.proofs.Common.{◌≡◌, ◌++◌, drop}
use Rattle.regions.specs.Slid.{new_region}
use Rattle.regions.proofs.sliding.new_region.Given as goal

abbrev pub invariant-loop-dimension : goal.invariant-loop-dimension
invariant-loop-dimension l = l.made ++ new_region l.scope l.along l.dimension (drop l.dimension l.region) ≡ new_region l.scope l.along 0 l.region
