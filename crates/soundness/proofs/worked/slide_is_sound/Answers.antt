use Rattle.soundness.proofs.Slide.{slide_is_sound}
use Rattle.soundness.proofs.worked.slide_is_sound.Goals as goal

pub returns : goal.returns
returns c = slide_is_sound
