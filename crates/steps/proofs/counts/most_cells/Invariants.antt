use Rattle.steps.proofs.Most.{IsMostBefore}
use Rattle.steps.proofs.counts.most_cells.Given as goal

abbrev pub invariant-loop-piece : goal.invariant-loop-piece
invariant-loop-piece g l = IsMostBefore (g.J.Runs.work l.job) l.piece l.most
