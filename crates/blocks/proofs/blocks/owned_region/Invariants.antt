use Rattle.std.proofs.Common.{◌≡◌, ◌++◌, drop}
use Rattle.blocks.specs.Blocks.{owned_region}
use Rattle.blocks.proofs.blocks.owned_region.Given as goal

abbrev pub invariant-loop-one : goal.invariant-loop-one
invariant-loop-one l = l.region ++ owned_region (drop l.one-index l.dimensions) ≡ owned_region l.dimensions
