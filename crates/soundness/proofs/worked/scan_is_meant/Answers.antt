use Rattle.soundness.proofs.ScanMeant.{scan_is_meant}
use Rattle.soundness.proofs.worked.scan_is_meant.Goals as goal

pub returns : goal.returns
returns c = scan_is_meant
