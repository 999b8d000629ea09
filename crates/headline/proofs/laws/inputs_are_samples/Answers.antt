use Rattle.headline.proofs.Samples.{inputs_are_samples as lemma}
use Rattle.headline.proofs.laws.inputs_are_samples.Goals as goal

pub returns : goal.returns
returns c = lemma
