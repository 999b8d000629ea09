use Rattle.std.proofs.Common.{◌≡◌, ◌++◌, drop}
use Rattle.blocks.specs.Blocks.{claimed_region}
use Rattle.blocks.proofs.blocks.claimed_region.Given as goal

abbrev pub invariant-loop-one : goal.invariant-loop-one
invariant-loop-one l = l.region ++ claimed_region (drop l.one-index l.dimensions) ≡ claimed_region l.dimensions
