use Rattle.soundness.proofs.Calls.{given_is_of_algorithm as lemma_given}
use Rattle.soundness.proofs.laws.given_is_of_algorithm.Goals as goal

pub returns : goal.returns
returns c = lemma_given
