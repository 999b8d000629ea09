use Rattle.std.proofs.Common.{◌≡◌, ◌++◌, drop}
use Rattle.regions.specs.Slid.{with_span}
use Rattle.regions.proofs.sliding.with_span.Given as goal

abbrev pub invariant-loop-dimension : goal.invariant-loop-dimension
invariant-loop-dimension l = l.made ++ with_span l.along l.span l.dimension (drop l.dimension l.region) ≡ with_span l.along l.span 0 l.region
