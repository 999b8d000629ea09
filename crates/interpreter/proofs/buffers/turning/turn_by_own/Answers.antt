use Rattle.std.proofs.Common.{◌≡◌, ◌+◌, None, sym, ap, ◌∙◌, arith}
use Rattle.interpreter.specs.Buffers.Marks.{held_places}
use Rattle.interpreter.specs.HeldTurns.{on_own, turned}
use Rattle.interpreter.proofs.HeldTurns.{turned_next, turned_stops}
use Rattle.interpreter.proofs.buffers.turning.turn_by_own.Goals as goal

pub returns-in_err-set_by_own-clause-turned : goal.returns-in_err-set_by_own-clause-turned
returns-in_err-set_by_own-clause-turned g c = λ v w n zs behind.
    let l = c.loop-turn in
    let o = on_own c.args.op v w n in
    let point = c.args.point.now in
    let first = c.args.first.now in
    let second = c.args.second.now in
    let h = held_places c.args.marks.now c.args.words.now c.args.wides.now.items in
    let none = turned_next o zs behind point first second h l.turn (held_places l.marks l.words l.wides.items) None (l.invariant.held v w n zs behind) (sym c.in_err-set_by_own.ensures.turned) in
    let all = turned_stops o zs behind point first second h (l.turn + 1) c.args.count (omega arith) none in
    rw c.from_residual.ensures (sym all)

pub returns-clause-turned : goal.returns-clause-turned
returns-clause-turned g c = λ v w n zs behind.
    let l = c.loop-turn in
    let h = held_places c.args.marks.now c.args.words.now c.args.wides.now.items in
    let all : l.turn ≡ c.args.count = omega arith in
    sym (l.invariant.held v w n zs behind) ∙ ap (turned (on_own c.args.op v w n) zs behind c.args.point.now c.args.first.now c.args.second.now h) all
