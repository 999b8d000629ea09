use Rattle.std.proofs.Common.{sym, subst}
use Rattle.std.proofs.lemmas.Result.{IfOk-weaker}
use Rattle.tree.specs.declared.token.token.Token.TheVariants as token
use Rattle.tree.specs.declared.expr.Expr.{Expr}
use Rattle.expr.specs.Places.{One, Part, Stands, of_one}
use Rattle.expr.proofs.measured.cast.Goals as goal

pub returns-clause-stands : goal.returns-clause-stands
returns-clause-stands c =
    IfOk-weaker c.fitted.result _ _
    (λ m kept ls h k. subst (λ (e : Expr). Stands e ls) (sym kept.0)
    (h, subst (λ (a : Expr). of_one (One (token.Type c.args.ty)) (Part (Stands a)) ls) (sym c.in_ok-new.ensures.ok) k))
    c.fitted.ensures.kept
