use Rattle.audit.proofs.OfVerdict.ShownPlain.{plain_is_shown, plain_is_accepted}
use Rattle.audit.proofs.verdict.shown.laws.plain_plans_are_accepted.Goals as goal

pub returns-clause-lines : goal.returns-clause-lines
returns-clause-lines c = plain_is_shown c.plain_nests_are_accepted.ensures c.plain_nests_are_taken.ensures

pub returns-clause-plans : goal.returns-clause-plans
returns-clause-plans c = plain_is_accepted c.plain_nests_are_accepted.ensures c.plain_nests_are_taken.ensures
