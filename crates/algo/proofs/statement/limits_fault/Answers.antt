use Rattle.std.proofs.Common.{◌≡◌, Some, List, inr, refl, subst}
use Rattle.std.specs.Prelude.{slice_get}
use Rattle.expr.specs.declared.statements.statement.Named.{Named}
use Rattle.algo.proofs.Placed.{item_at}
use Rattle.algo.proofs.statement.limits_fault.Goals as goal

pub returns-in-len4-up-clause-place : goal.returns-in-len4-up-clause-place
returns-in-len4-up-clause-place c =
    let fourth = c.fourth-item.result in
    let stands = item_at c.as_slice.result.now 3 fourth c.fourth-item.is c.in-len4-up.len_at_least in
    inr (inr (fourth, subst (λ (l : List Named). slice_get l 3 ≡ Some fourth) c.as_slice.ensures.value stands, refl))
