use Rattle.lower.proofs.Owners.{make_up}
use Rattle.lower.proofs.laws.blocks_make_up_regions.Goals as goal

pub returns : goal.returns
returns c = make_up
