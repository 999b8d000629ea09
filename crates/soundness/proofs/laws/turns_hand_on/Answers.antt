use Rattle.soundness.proofs.Handing.{turns_hand_on}
use Rattle.soundness.proofs.laws.turns_hand_on.Goals as goal

pub returns : goal.returns
returns c = turns_hand_on
