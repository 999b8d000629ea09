use Rattle.std.proofs.Common.{◌∙◌, ap, subst, Result, Err}
use Rattle.tree.specs.declared.expr.Expr.{Expr}
use Rattle.tree.specs.Term.{term_of}
use Rattle.algo.specs.View.{algorithm_of}
use Rattle.soundness.specs.Outline.View.{outline_in, plan_in}
use Rattle.subst.specs.declared.error.SubstError.{SubstError}
use Rattle.subst.specs.PutIn.{PutsIn}
use Rattle.validation.proofs.Refused.{too_large}
use Rattle.validation.proofs.stored.stored.is_put_in.Goals as goal

pub returns-in-Err-TooLarge : goal.returns-in-Err-TooLarge
returns-in-Err-TooLarge c =
    let a = algorithm_of c.args.ground.algo.now in
    let p = plan_in c.args.ground.outlined.now in
    too_large a p (outline_in c.args.ground.outlined.now) (term_of c.args.definition.now) (term_of c.args.value.now) c.args.ground.stored.now c.args.ground.marked c.requires
    (subst (λ (r : Result Expr SubstError). PutsIn a c.args.ground.stored.now (term_of c.args.definition.now) r) (c.in-Err-TooLarge.is ∙ ap (λ (e : SubstError). Err e) c.in-Err-TooLarge.field-0-is) c.put_in.ensures)
