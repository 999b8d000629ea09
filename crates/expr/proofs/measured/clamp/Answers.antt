use Rattle.std.proofs.Common.{sym, subst}
use Rattle.std.proofs.lemmas.Result.{IfOk-weaker}
use Rattle.tree.specs.declared.token.token.Token.TheVariants as token
use Rattle.tree.specs.declared.token.token.Word.TheVariants as word
use Rattle.tree.specs.declared.expr.Expr.{Expr}
use Rattle.expr.specs.Places.{One, Part, Stands, of_three}
use Rattle.expr.proofs.measured.clamp.Goals as goal

pub returns-clause-stands : goal.returns-clause-stands
returns-clause-stands c =
    IfOk-weaker c.fitted.result _ _
    (λ m kept ls h k. subst (λ (e : Expr). Stands e ls) (sym kept.0)
    (h, subst (λ (a : Expr). of_three (One (token.Word word.Clamp)) (Part (Stands c.in_ok-new.field-0.value)) (Part (Stands c.in_ok-new-2.field-0.value)) (Part (Stands a)) ls) (sym c.in_ok-new-3.ensures.ok) (subst (λ (a : Expr). of_three (One (token.Word word.Clamp)) (Part (Stands c.in_ok-new.field-0.value)) (Part (Stands a)) (Part (Stands c.args.high.expr)) ls) (sym c.in_ok-new-2.ensures.ok) (subst (λ (a : Expr). of_three (One (token.Word word.Clamp)) (Part (Stands a)) (Part (Stands c.args.low.expr)) (Part (Stands c.args.high.expr)) ls) (sym c.in_ok-new.ensures.ok) k))))
    c.fitted.ensures.kept
