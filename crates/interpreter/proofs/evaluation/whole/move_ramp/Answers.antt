use Rattle.std.proofs.Common.{ap, ◌∙◌, pos, ◌+ℤ◌}
use Rattle.numeric.specs.declared.ty.Ty.{Ty}
use Rattle.numeric.specs.Apply.{exact}
use Rattle.numeric.specs.Wrap.{wrap}
use Rattle.tree.specs.Meaning.{typed}
use Rattle.interpreter.proofs.Ramps.{ramp_moved}
use Rattle.interpreter.proofs.evaluation.whole.move_ramp.Goals as goal

pub returns-then-is_ramp-clause-lanes : goal.returns-then-is_ramp-clause-lanes
returns-then-is_ramp-clause-lanes c = λ k lt.
    let v = c.in_ok-moved.moved in
    let a = c.args.left in
    let b = c.args.right in
    let h = c.if-is_ramp.ensures in
    ap (typed v.ty) (ramp_moved c.args.op v.ty a.number b.number v.number c.args.count k c.in_ok-moved.ensures.number h.least h.greatest lt)
    ∙ ap (λ (t : Ty). typed t (wrap t (exact c.args.op (a.number +ℤ pos k) b.number))) c.in_ok-moved.ensures.ty
