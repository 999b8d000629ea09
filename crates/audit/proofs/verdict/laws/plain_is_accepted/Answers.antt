use Rattle.audit.proofs.OfVerdict.Plain.{plain_accepted}
use Rattle.audit.proofs.verdict.laws.plain_is_accepted.Goals as goal

pub returns : goal.returns
returns c = plain_accepted c.plain_plans_are_accepted.ensures.lines c.rules_say_same.ensures
