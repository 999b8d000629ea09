use Rattle.std.proofs.Common.{None, false, replicate, ◌∙◌, ap}
use Rattle.steps.proofs.Seated.{shows_start}
use Rattle.steps.proofs.crew.Crew.new.Goals as goal

pub returns-clause-start : goal.returns-clause-start
returns-clause-start g c =
    shows_start (g.J.Runs.work c.args.job.now) c.args.most c.in_ok-table.table c.in_ok-workers.workers.items
    (c.in_ok-table.ensures.cells ∙ ap (λ n. replicate n None) c.cells.ensures)
    c.in_ok-table.ensures.drawn
    (c.in_ok-table.ensures.finished ∙ ap (λ n. replicate n false) c.pieces.ensures)
    c.in_ok-workers.ensures.idle
