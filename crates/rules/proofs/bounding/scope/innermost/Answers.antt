use Rattle.std.proofs.Common.{◌∙◌, sym, ap}
use Rattle.std.specs.Prelude.{if◌then◌else◌, take}
use Rattle.soundness.specs.Binders.View.{binders_of}
use Rattle.rules.specs.Bounding.Held.{told_by, told_by_one}
use Rattle.rules.specs.Bounding.Scopes.{binding_of}
use Rattle.rules.proofs.Binders.{told_more}
use Rattle.rules.proofs.bounding.scope.innermost.Goals as goal
use Rattle.rules.proofs.bounding.scope.innermost.Goals.{then-binds, else-binds}

pub loop-binder-preserved : goal.loop-binder-preserved
loop-binder-preserved c =
    let bs = c.args.binders.now in
    let b = c.binder-item.result in
    let before = binding_of (binders_of (take c.loop-binder.binder-index bs)) c.args.symbol in
    let more = told_more bs c.loop-binder.binder-index b c.args.symbol c.loop-binder-test.true (sym c.binder-item.is) in
    elim c.if-binds.branch [
      | then-binds w ↦ ap told_by_one w.found-is ∙ sym (more ∙ ap (λ v. if v then told_by b else before) (sym c.binds.ensures ∙ w.if-binds.true))
      | else-binds w ↦ ap told_by_one w.found-is ∙ c.loop-binder.invariant ∙ sym (more ∙ ap (λ v. if v then told_by b else before) (sym c.binds.ensures ∙ w.if-binds.false))
    ]
