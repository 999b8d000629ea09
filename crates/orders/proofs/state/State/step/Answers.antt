use Rattle.std.proofs.Common.{◌∙◌, ap, sym, subst}
use Rattle.orders.specs.Crew.{step}
use Rattle.orders.specs.Seen.{Snapshot, crew_of}
use Rattle.orders.specs.Within.{AllWithin}
use Rattle.orders.proofs.Runs.{shows_step, seat_within}
use Rattle.orders.proofs.state.State.step.Goals as goal

pub act-requires : goal.act-requires
act-requires g c =
    let work = g.J.Job.work c.args.job.now in
    let P : Snapshot → Type 0 = λ s. AllWithin work (crew_of s) in
    seat_within work c.self.inside.table c.self.inside.workers.items c.from-seat.result c.args.worker c.index_mut.result.now c.replace-before.result
    c.from-seat.ensures c.requires.worker c.self.invariant c.index_mut.ensures.value c.replace-before.ensures.value (subst P (sym c.self.view_is) c.requires.within)

pub returns : goal.returns
returns g c =
    let work = g.J.Job.work c.args.job.now in
    shows_step work c.self.inside.table c.act.new.table c.self.inside.workers.items c.from-seat.result c.args.worker c.index_mut.result.now c.replace-before.result c.replace-before.new.dest c.in_ok-next.next
    c.from-seat.ensures c.requires.worker c.self.invariant c.index_mut.ensures.value c.replace-before.ensures.value c.in_ok-next.ensures.table c.in_ok-next.ensures.worker
    ∙ ap (λ s. step work (crew_of s) c.args.worker) c.self.view_is
