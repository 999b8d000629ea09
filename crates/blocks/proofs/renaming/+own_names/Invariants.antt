use Rattle.blocks.proofs.renaming.+own_names.Given as goal

abbrev pub decreases-own_names : goal.decreases-own_names
decreases-own_names l = l.count
