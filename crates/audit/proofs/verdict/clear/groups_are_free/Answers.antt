use Rattle.audit.proofs.OfVerdict.Free.{groups_free}
use Rattle.audit.proofs.verdict.clear.groups_are_free.Goals as goal

pub returns : goal.returns
returns c = groups_free
