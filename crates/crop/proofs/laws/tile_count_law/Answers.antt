use Rattle.crop.proofs.Counts.{tile_count_law}
use Rattle.crop.proofs.laws.tile_count_law.Goals as goal

pub returns : goal.returns
returns c = tile_count_law
