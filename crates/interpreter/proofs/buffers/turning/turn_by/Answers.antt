use Rattle.std.proofs.Common.{sym, ap, ◌∙◌}
use Rattle.interpreter.specs.Buffers.Marks.{held_places}
use Rattle.interpreter.specs.HeldTurns.{turned}
use Rattle.interpreter.specs.declared.updates.Operation.{Operation}
use Rattle.interpreter.proofs.HeldTurns.{known_kind, own_kind}
use Rattle.interpreter.proofs.buffers.turning.turn_by.Goals as goal

pub returns-in-Own-Known-clause-turned : goal.returns-in-Own-Known-clause-turned
returns-in-Own-Known-clause-turned g c =
    let o = c.args.operation in
    let p = c.args.places.now in
    let w = c.in-Own-Known.field-0-0 in
    let is = known_kind o w c.in-Own-Known.ty c.in-Own-Known.is-0 c.in-Own-Known.is-1 in
    c.turn_by_known.ensures.turned w o.width c.args.numbers.now p.right.now
    ∙ ap (λ (x : Operation). turned x c.args.numbers.now c.args.behind.now p.point.now p.left.now p.right.now (held_places c.args.marks.now c.args.words.now c.args.wides.now.items) c.args.count) (sym is)

pub returns-in-Own-Own-clause-turned : goal.returns-in-Own-Own-clause-turned
returns-in-Own-Own-clause-turned g c =
    let o = c.args.operation in
    let p = c.args.places.now in
    let v = c.in-Own-Own.field-0-0 in
    let w = c.in-Own-Own.field-0-1 in
    let is = own_kind o v w c.in-Own-Own.is-0 c.in-Own-Own.is-1 in
    c.turn_by_own.ensures.turned v w o.width c.args.numbers.now c.args.behind.now
    ∙ ap (λ (x : Operation). turned x c.args.numbers.now c.args.behind.now p.point.now p.left.now p.right.now (held_places c.args.marks.now c.args.words.now c.args.wides.now.items) c.args.count) (sym is)
