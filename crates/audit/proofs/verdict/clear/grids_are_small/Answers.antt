use Rattle.audit.proofs.OfVerdict.Apart.{grids_small}
use Rattle.audit.proofs.verdict.clear.grids_are_small.Goals as goal

pub returns : goal.returns
returns c = grids_small
