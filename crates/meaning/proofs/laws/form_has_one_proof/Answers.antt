use Rattle.meaning.proofs.Props.{IsAlgorithm-prop}
use Rattle.meaning.proofs.laws.form_has_one_proof.Goals as goal

pub returns : goal.returns
returns c = IsAlgorithm-prop
