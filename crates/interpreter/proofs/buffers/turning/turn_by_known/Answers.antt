use Rattle.std.proofs.Common.{◌≡◌, ◌+◌, None, sym, ap, ◌∙◌, arith}
use Rattle.interpreter.specs.Buffers.Marks.{held_places}
use Rattle.interpreter.specs.HeldTurns.{on_known, turned}
use Rattle.interpreter.proofs.HeldTurns.{turned_next, turned_stops}
use Rattle.interpreter.proofs.buffers.turning.turn_by_known.Goals as goal

pub returns-in_err-set_by_known-clause-turned : goal.returns-in_err-set_by_known-clause-turned
returns-in_err-set_by_known-clause-turned g c = λ w n zs rights.
    let l = c.loop-turn in
    let o = on_known c.args.op w c.args.ty n in
    let behind = c.args.behind.now in
    let point = c.args.point.now in
    let own = c.args.own.now in
    let h = held_places c.args.marks.now c.args.words.now c.args.wides.now.items in
    let none = turned_next o zs behind point own rights h l.turn (held_places l.marks l.words l.wides.items) None (l.invariant.held w n zs rights) (sym c.in_err-set_by_known.ensures.turned) in
    let all = turned_stops o zs behind point own rights h (l.turn + 1) c.args.count (omega arith) none in
    rw c.from_residual.ensures (sym all)

pub returns-clause-turned : goal.returns-clause-turned
returns-clause-turned g c = λ w n zs rights.
    let l = c.loop-turn in
    let h = held_places c.args.marks.now c.args.words.now c.args.wides.now.items in
    let all : l.turn ≡ c.args.count = omega arith in
    sym (l.invariant.held w n zs rights) ∙ ap (turned (on_known c.args.op w c.args.ty n) zs c.args.behind.now c.args.point.now c.args.own.now rights h) all
