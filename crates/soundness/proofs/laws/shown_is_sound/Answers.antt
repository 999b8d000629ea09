use Rattle.soundness.proofs.Shown.{shown_is_sound}
use Rattle.soundness.proofs.laws.shown_is_sound.Goals as goal

pub returns : goal.returns
returns c = shown_is_sound
