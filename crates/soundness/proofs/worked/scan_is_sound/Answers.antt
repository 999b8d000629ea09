use Rattle.soundness.proofs.Scan.{scan_sound}
use Rattle.soundness.proofs.worked.scan_is_sound.Goals as goal

pub returns : goal.returns
returns c = scan_sound
