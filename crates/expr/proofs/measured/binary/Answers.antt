use Rattle.std.proofs.Common.{sym, subst, ◌⊎◌}
use Rattle.std.proofs.lemmas.Result.{IfOk-weaker}
use Rattle.tree.specs.declared.expr.Expr.{Expr}
use Rattle.expr.specs.Places.{ExtremeOf, Part, Stands, operated, of_two}
use Rattle.expr.proofs.measured.binary.Goals as goal

pub returns-clause-stands : goal.returns-clause-stands
returns-clause-stands c =
    IfOk-weaker c.fitted.result _ _
    (λ m kept ls h k. subst (λ (e : Expr). Stands e ls) (sym kept.0)
    (h, subst (λ (a : Expr). operated c.args.op (Stands c.in_ok-new.field-0.value) (Stands a) ls ⊎ of_two (ExtremeOf c.args.op) (Part (Stands c.in_ok-new.field-0.value)) (Part (Stands a)) ls) (sym c.in_ok-new-2.ensures.ok) (subst (λ (a : Expr). operated c.args.op (Stands a) (Stands c.args.right.expr) ls ⊎ of_two (ExtremeOf c.args.op) (Part (Stands a)) (Part (Stands c.args.right.expr)) ls) (sym c.in_ok-new.ensures.ok) k)))
    c.fitted.ensures.kept
