use Rattle.soundness.proofs.Shown.{meant_is_sound}
use Rattle.soundness.proofs.laws.meant_is_sound.Goals as goal

pub returns : goal.returns
returns c = meant_is_sound
