use Rattle.audit.proofs.OfVerdict.OfPlans.Run.{hist_given}
use Rattle.audit.proofs.verdict.plans.counts.hist_runs_right.Goals as goal

pub returns : goal.returns
returns c = hist_given c.hist_is_sound.ensures c.private_runs_are_right.ensures c.given_is_of_algorithm.ensures c.definitions_are_right.ensures
