use Rattle.blocks.proofs.counting.Names.+rests.Given as goal

abbrev pub decreases-rests : goal.decreases-rests
decreases-rests l = l.count
