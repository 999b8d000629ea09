use Rattle.algo.proofs.Exclusion.{refused_excludes}
use Rattle.algo.proofs.laws.refused_is_no_algorithm.Goals as goal

pub returns : goal.returns
returns c = refused_excludes
