use Rattle.audit.proofs.OfVerdict.ScanPlan.{scan_accepted}
use Rattle.audit.proofs.verdict.examples.scan_is_accepted.Goals as goal

pub returns : goal.returns
returns c = scan_accepted
