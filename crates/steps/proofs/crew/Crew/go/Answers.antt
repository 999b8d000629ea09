use Rattle.std.proofs.Common.{◌∙◌, ap, sym, get_or}
use Rattle.orders.specs.Crew.{start, step}
use Rattle.orders.proofs.Runs.{go_more}
use Rattle.steps.proofs.crew.Crew.go.Goals as goal

pub loop-worker-preserved : goal.loop-worker-preserved
loop-worker-preserved g c =
    let work = g.J.Runs.work c.args.job.now in
    let order = c.args.order.now in
    let place = c.loop-worker.worker-index in
    record {
      steps = c.step.ensures.step ∙ ap (λ crew. step work crew (get_or order place 0)) c.loop-worker.invariant.steps ∙ sym (go_more work (start work) order place 0 c.loop-worker-test.true);
      seats = c.step.ensures.seats ∙ c.loop-worker.invariant.seats;
      desk = c.step.ensures.desk;
      room = c.step.ensures.room;
    }
