use Rattle.algo.proofs.Sizes.{size-ends}
use Rattle.algo.proofs.scoping.laws.size_needs_no_names.Goals as goal

pub returns : goal.returns
returns c = size-ends
