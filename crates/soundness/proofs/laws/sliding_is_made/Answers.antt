use Rattle.soundness.proofs.Sliding.{sliding_is_made}
use Rattle.soundness.proofs.laws.sliding_is_made.Goals as goal

pub returns : goal.returns
returns c = sliding_is_made
