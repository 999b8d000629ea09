use Rattle.audit.proofs.OfVerdict.Scan.{scan_accepted}
use Rattle.audit.proofs.verdict.shown.laws.scan_is_accepted.Goals as goal

pub returns : goal.returns
returns c = scan_accepted
