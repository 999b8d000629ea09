use Rattle.regions.proofs.regions.+closed_within.Given as goal

abbrev pub decreases-closed_within : goal.decreases-closed_within
decreases-closed_within l = l.rounds
