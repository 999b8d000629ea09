use Rattle.soundness.proofs.Hist.{hist_is_sound}
use Rattle.soundness.proofs.worked.hist_is_sound.Goals as goal

pub returns : goal.returns
returns c = hist_is_sound
