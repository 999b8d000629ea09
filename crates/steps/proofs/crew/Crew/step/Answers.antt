use Rattle.std.proofs.Common.{ℕ, get_or, sym, subst}
use Rattle.std.specs.Prelude.{vec_capacity}
use Rattle.std.proofs.lemmas.List.Elements.{All-set}
use Rattle.orders.specs.Crew.{Worker as MachineWorker}
use Rattle.orders.specs.Within.{IsWithin}
use Rattle.steps.specs.Seats.{shown, HasSeenTargets, IsMost}
use Rattle.steps.specs.declared.worker.Worker.{Worker}
use Rattle.steps.proofs.Seated.{at_seat, reached_right, reached_seen, reached_within, shows_step}
use Rattle.steps.proofs.crew.Crew.step.Goals as goal

pub act-seat-requires-clause-within : goal.act-seat-requires-clause-within
act-seat-requires-clause-within g c =
    let work = g.J.Runs.work c.args.job.now in
    let P : MachineWorker → Type 0 = λ x. IsWithin work x in
    subst P (at_seat c.args.self.now.workers.items c.from-place.result c.args.worker c.index_mut-seat.result.now c.from-place.ensures c.requires.worker c.index_mut-seat.ensures.value)
    (reached_within work (shown c.args.self.now) c.requires.reached c.args.worker)

pub act-seat-requires-clause-right : goal.act-seat-requires-clause-right
act-seat-requires-clause-right g c = reached_right (g.J.Runs.work c.args.job.now) (g.J.Runs.target c.args.job.now) (shown c.args.self.now) c.requires.sound c.requires.reached

pub act-seat-requires-clause-looked : goal.act-seat-requires-clause-looked
act-seat-requires-clause-looked g c =
    let work = g.J.Runs.work c.args.job.now in
    let target = g.J.Runs.target c.args.job.now in
    let P : MachineWorker → Type 0 = λ x. HasSeenTargets work target x in
    subst P (at_seat c.args.self.now.workers.items c.from-place.result c.args.worker c.index_mut-seat.result.now c.from-place.ensures c.requires.worker c.index_mut-seat.ensures.value)
    (reached_seen work target (shown c.args.self.now) c.args.worker c.requires.sound c.requires.reached)

pub act-seat-requires-clause-room : goal.act-seat-requires-clause-room
act-seat-requires-clause-room g c =
    let work = g.J.Runs.work c.args.job.now in
    let P : Worker → Type 0 = λ x. IsMost work (vec_capacity x.numbers) in
    let N : ℕ → Type 0 = λ n. P (get_or c.args.self.now.workers.items n c.index_mut-seat.result.now) in
    subst P (sym c.index_mut-seat.ensures.value) (subst N (sym c.from-place.ensures) (c.requires.room c.args.worker c.index_mut-seat.result.now c.requires.worker))

pub returns-clause-step : goal.returns-clause-step
returns-clause-step g c =
    let next : Worker = record { place = c.act-seat.result; numbers = c.act-seat.new.numbers } in
    shows_step (g.J.Runs.work c.args.job.now) c.args.self.now.table c.act-seat.new.table c.args.self.now.workers.items c.from-place.result c.args.worker c.index_mut-seat.result.now next
    c.from-place.ensures c.requires.worker c.index_mut-seat.ensures.value c.act-seat.ensures.table c.act-seat.ensures.worker

pub returns-clause-room : goal.returns-clause-room
returns-clause-room g c =
    let work = g.J.Runs.work c.args.job.now in
    let next : Worker = record { place = c.act-seat.result; numbers = c.act-seat.new.numbers } in
    let P : Worker → Type 0 = λ x. IsMost work (vec_capacity x.numbers) in
    let N : ℕ → Type 0 = λ n. P (get_or c.args.self.now.workers.items n c.index_mut-seat.result.now) in
    let before : P c.index_mut-seat.result.now = subst P (sym c.index_mut-seat.ensures.value) (subst N (sym c.from-place.ensures) (c.requires.room c.args.worker c.index_mut-seat.result.now c.requires.worker)) in
    All-set P c.args.self.now.workers.items c.from-place.result next (subst (λ (n : ℕ). IsMost work n) (sym c.act-seat.ensures.room) before) c.requires.room
