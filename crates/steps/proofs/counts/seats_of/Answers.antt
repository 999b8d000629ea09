use Rattle.std.proofs.Common.{ℕ, ◌<◌, arith}
use Rattle.orders.proofs.Marking.{all_taken}
use Rattle.steps.proofs.Most.{one_named}
use Rattle.steps.proofs.counts.seats_of.Goals as goal

pub loop-worker-preserved : goal.loop-worker-preserved
loop-worker-preserved c =
    one_named c.args.order.now c.loop-worker.worker-index c.loop-worker.seats c.with_seat-seats.result c.loop-worker-test.true c.loop-worker.invariant c.with_seat-seats.ensures.seats c.with_seat-seats.ensures.worker

pub returns : goal.returns
returns c =
    let P : ℕ → Type 0 = λ worker. worker < c.loop-worker.seats in
    all_taken P c.args.order.now c.loop-worker.worker-index (omega (arith, c.loop-worker.auto.worker-index-end, c.loop-worker-test.false)) c.loop-worker.invariant
