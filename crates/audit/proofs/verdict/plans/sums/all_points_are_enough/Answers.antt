use Rattle.audit.proofs.verdict.plans.sums.all_points_are_enough.Goals as goal

pub returns : goal.returns
returns c = c.scan_is_sound.ensures
