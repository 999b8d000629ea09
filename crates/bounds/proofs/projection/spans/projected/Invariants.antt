use Rattle.std.proofs.Common.{◌≡◌, drop}
use Rattle.bounds.proofs.RegionLemmas.{behind}
use Rattle.bounds.specs.Projection.Projection.{projected}
use Rattle.bounds.proofs.projection.spans.projected.Given as goal

-- what was made before what is left is the whole
abbrev pub invariant-loop-span : goal.invariant-loop-span
invariant-loop-span l = behind l.made (projected l.scope l.inner (drop l.span-index l.spans)) ≡ projected l.scope l.inner l.spans
