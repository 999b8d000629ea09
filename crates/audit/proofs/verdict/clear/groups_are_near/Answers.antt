use Rattle.audit.proofs.OfVerdict.Near.{groups_near}
use Rattle.audit.proofs.verdict.clear.groups_are_near.Goals as goal

pub returns : goal.returns
returns c = groups_near
