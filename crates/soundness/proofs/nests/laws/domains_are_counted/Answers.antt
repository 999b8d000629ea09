use Rattle.soundness.proofs.Counted.{domains_are_counted as lemma_counted}
use Rattle.soundness.proofs.nests.laws.domains_are_counted.Goals as goal

pub returns : goal.returns
returns c = lemma_counted
