use Rattle.crop.proofs.Grids.{partition}
use Rattle.crop.proofs.tiling.tiles_are_partition.Goals as goal

pub returns : goal.returns
returns c = partition
