use Rattle.std.proofs.Common.{◌∙◌, ap, subst, sym, take, get_or}
use Rattle.orders.specs.Crew.{Crew, start, step}
use Rattle.orders.specs.Within.{AllWithin}
use Rattle.orders.proofs.Runs.{within_go, go_more}
use Rattle.orders.proofs.replay.Goals as goal

pub step-requires-clause-within : goal.step-requires-clause-within
step-requires-clause-within g c =
    let work = g.J.Job.work c.args.job.now in
    let P : Crew → Type 0 = λ crew. AllWithin work crew in
    subst P (sym c.loop-worker.invariant) (within_go work (start work) (take c.loop-worker.worker-index c.args.order.now) (λ w. tt))

pub loop-worker-preserved : goal.loop-worker-preserved
loop-worker-preserved g c =
    let work = g.J.Job.work c.args.job.now in
    let order = c.args.order.now in
    let place = c.loop-worker.worker-index in
    c.in_ok-step.ensures ∙ ap (λ crew. step work crew (get_or order place 0)) c.loop-worker.invariant ∙ sym (go_more work (start work) order place 0 c.loop-worker-test.true)
