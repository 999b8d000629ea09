use Rattle.crop.proofs.Mosaic.{tile_law}
use Rattle.crop.proofs.laws.tile_law.Goals as goal

pub returns : goal.returns
returns c = tile_law
