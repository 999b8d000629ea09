use Rattle.std.proofs.Common.{arith}
use Rattle.crew.proofs.Joining.{all_joined, first_joined, next_drawn, one_joined}
use Rattle.crew.proofs.workers.united.Goals as goal

pub loop-worker-init : goal.loop-worker-init
loop-worker-init g c = first_joined c.args.board.now c.in-Some.last c.pop.new.self.items c.args.workers.items c.requires.drawn c.in-Some.ensures.items c.requires.seats

pub join-requires-clause-board : goal.join-requires-clause-board
join-requires-clause-board g c =
    let next = next_drawn c.args.board.now c.loop-worker.seat c.in-Some-pop.worker c.loop-worker.workers.items c.pop-in-loop-worker.new.self.items c.loop-worker.invariant c.in-Some-pop.ensures.items in
    (c.loop-worker.invariant.board, next.board)

pub join-requires-clause-idle : goal.join-requires-clause-idle
join-requires-clause-idle g c =
    let next = next_drawn c.args.board.now c.loop-worker.seat c.in-Some-pop.worker c.loop-worker.workers.items c.pop-in-loop-worker.new.self.items c.loop-worker.invariant c.in-Some-pop.ensures.items in
    (c.loop-worker.invariant.idle, next.idle)

pub loop-worker-preserved : goal.loop-worker-preserved
loop-worker-preserved g c =
    one_joined c.args.board.now c.loop-worker.seat c.join.new.seat c.in-Some-pop.worker c.loop-worker.workers.items c.pop-in-loop-worker.new.self.items
    c.loop-worker.invariant c.in-Some-pop.ensures.items c.join.ensures

pub returns-clause-done : goal.returns-clause-done
returns-clause-done g c = all_joined c.args.board.now c.loop-worker.seat c.loop-worker.workers.items c.loop-worker.invariant (omega (arith, c.in_default-pop.ensures.cases.0, c.loop-worker.workers.ok.0))
