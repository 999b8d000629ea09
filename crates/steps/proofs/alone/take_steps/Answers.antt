use Rattle.std.proofs.Common.{◌∙◌, ap, replicate}
use Rattle.orders.specs.Crew.{step}
use Rattle.steps.specs.Seats.{shown}
use Rattle.steps.proofs.Repeated.{one_more}
use Rattle.steps.proofs.Seated.{reached_more}
use Rattle.steps.proofs.alone.take_steps.Goals as goal

pub step-requires-clause-reached : goal.step-requires-clause-reached
step-requires-clause-reached g c =
    let work = g.J.Runs.work c.args.job.now in
    reached_more work (shown c.args.crew.now) (shown c.loop.crew) (replicate c.loop.counter 0) c.requires.reached c.loop.invariant.steps

pub loop-preserved : goal.loop-preserved
loop-preserved g c =
    let work = g.J.Runs.work c.args.job.now in
    record {
      steps = c.step.ensures.step ∙ ap (λ crew. step work crew 0) c.loop.invariant.steps ∙ one_more work (shown c.args.crew.now) c.loop.counter 0;
      seats = c.step.ensures.seats ∙ c.loop.invariant.seats;
      desk = c.step.ensures.desk;
      room = c.step.ensures.room;
    }
