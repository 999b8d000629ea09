use Rattle.tails.proofs.moves.+run.Given as goal

abbrev pub decreases-run : goal.decreases-run
decreases-run g l = l.most
