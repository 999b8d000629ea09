use Rattle.std.proofs.Common.{◌+◌, None, sym, arith}
use Rattle.interpreter.specs.Buffers.Marks.{held_places}
use Rattle.interpreter.proofs.HeldTurns.{turned_next, turned_stops}
use Rattle.interpreter.proofs.buffers.turning.turn_each.Goals as goal

pub returns-in_err-turn_held-clause-turned : goal.returns-in_err-turn_held-clause-turned
returns-in_err-turn_held-clause-turned g c =
    let l = c.loop-turn in
    let o = c.args.operation in
    let zs = c.args.numbers.now in
    let behind = c.args.behind.now in
    let p = c.args.places.now in
    let h = held_places c.args.marks.now c.args.words.now c.args.wides.now.items in
    let none = turned_next o zs behind p.point.now p.left.now p.right.now h l.turn (held_places l.marks l.words l.wides.items) None l.invariant.held (sym c.in_err-turn_held.ensures.turned) in
    let all = turned_stops o zs behind p.point.now p.left.now p.right.now h (l.turn + 1) c.args.count (omega arith) none in
    rw c.from_residual.ensures (sym all)
