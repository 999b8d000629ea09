use Rattle.std.proofs.Common.{◌≡◌, ℕ, ◌+◌, ◌∙◌, ap, replicate, length, arith}
use Rattle.orders.specs.Crew.{go, go_from, start}
use Rattle.orders.specs.Work.{steps_before}
use Rattle.steps.proofs.Repeated.{before_next, then_more}
use Rattle.steps.proofs.alone.finish_alone.Goals as goal

pub loop-piece-preserved : goal.loop-piece-preserved
loop-piece-preserved g c =
    let work = g.J.Runs.work c.args.job.now in
    let piece = c.loop-piece.piece in
    let steps : ℕ = 2 + length c.needs-asked.result.now + length c.fetched-looked.result.now + c.len-put.result in
    let asked : length c.needs-asked.result.now ≡ length (work.needs piece) = ap length c.needs-asked.ensures in
    let looked : length c.fetched-looked.result.now ≡ length (work.fetched piece) = ap length c.fetched-looked.ensures in
    let put : c.len-put.result ≡ length (work.own piece) = c.len-put.ensures.count ∙ ap length c.own.ensures in
    let sum : steps_before work piece + steps ≡ steps_before work (piece + 1) = (let next = before_next work piece in omega (arith, next, asked, looked, put)) in
    record {
      steps = c.take_steps.ensures.steps
          ∙ ap (λ crew. go_from work crew (replicate steps 0)) c.loop-piece.invariant.steps
          ∙ then_more work (start work) (steps_before work piece) steps 0
          ∙ ap (λ k. go work (replicate k 0)) sum;
      seats = c.take_steps.ensures.seats ∙ c.loop-piece.invariant.seats;
      desk = c.take_steps.ensures.desk;
      room = c.take_steps.ensures.room;
    }
