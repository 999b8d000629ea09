use Rattle.lower.proofs.lowering.+laid_by_rounds.Given as goal

abbrev pub decreases-laid_by_rounds : goal.decreases-laid_by_rounds
decreases-laid_by_rounds l = l.rounds
