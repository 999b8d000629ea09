use Rattle.regions.proofs.spots.+stands_inside.Given as goal

abbrev pub decreases-stands_inside : goal.decreases-stands_inside
decreases-stands_inside l = l.deep
