use Rattle.crop.proofs.Mosaic.{mosaic_law}
use Rattle.crop.proofs.laws.tiles_are_mosaic.Goals as goal

pub returns : goal.returns
returns c = mosaic_law
