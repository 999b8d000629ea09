use Rattle.audit.proofs.OfVerdict.Apart.{groups_apart}
use Rattle.audit.proofs.verdict.clear.groups_are_apart.Goals as goal

pub returns : goal.returns
returns c = groups_apart
