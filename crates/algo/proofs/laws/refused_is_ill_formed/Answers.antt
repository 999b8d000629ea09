use Rattle.algo.proofs.Converse.{well_formed_breaks_nothing}
use Rattle.algo.proofs.laws.refused_is_ill_formed.Goals as goal

pub returns : goal.returns
returns c = well_formed_breaks_nothing
