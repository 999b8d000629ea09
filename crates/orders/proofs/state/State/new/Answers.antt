use Rattle.std.proofs.Common.{None, false, replicate, ◌∙◌, ap}
use Rattle.orders.proofs.Runs.{shows_start}
use Rattle.orders.proofs.state.State.new.Goals as goal

pub returns : goal.returns
returns g c =
    shows_start (g.J.Job.work c.args.job.now) c.in_ok-new.field-0 c.in_ok-idle_workers.field-0.items
    (c.in_ok-new.ensures.cells ∙ ap (λ n. replicate n None) c.cells.ensures)
    c.in_ok-new.ensures.drawn
    (c.in_ok-new.ensures.finished ∙ ap (λ n. replicate n false) c.pieces.ensures)
    c.in_ok-idle_workers.ensures
