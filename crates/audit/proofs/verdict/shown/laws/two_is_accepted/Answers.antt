use Rattle.audit.proofs.OfVerdict.Two.{two_accepted}
use Rattle.audit.proofs.verdict.shown.laws.two_is_accepted.Goals as goal

pub returns : goal.returns
returns c = two_accepted c.plain_nests_are_accepted.ensures c.plain_nests_are_taken.ensures c.forms_are_at_most_themselves.ensures
