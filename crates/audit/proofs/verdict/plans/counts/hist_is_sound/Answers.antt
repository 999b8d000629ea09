use Rattle.audit.proofs.OfVerdict.OfPlans.Counted.{hist_counted}
use Rattle.audit.proofs.verdict.plans.counts.hist_is_sound.Goals as goal

pub returns : goal.returns
returns c = hist_counted c.meant_is_sound.ensures c.plain_nests_are_right.ensures
