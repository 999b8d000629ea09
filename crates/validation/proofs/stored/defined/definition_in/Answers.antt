use Rattle.std.proofs.Common.{ap, sym, ◌∙◌, arith, List}
use Rattle.std.specs.Prelude.{slice_get}
use Rattle.algo.specs.declared.function.Update.{Update}
use Rattle.validation.proofs.Functions.{step_found, step_missing}
use Rattle.validation.proofs.stored.defined.definition_in.Goals as goal

pub returns-in-Some-update_at : goal.returns-in-Some-update_at
returns-in-Some-update_at c =
    step_found c.args.function.now c.args.number c.in-Some.update c.in-Some-update_at.update.now (omega (arith, c.in-Some.ensures))
    (ap (λ (us : List Update). slice_get us c.in-Some.update) (sym c.deref.ensures.value) ∙ c.in-Some-update_at.ensures)

pub returns-in-None-update_at : goal.returns-in-None-update_at
returns-in-None-update_at c =
    step_missing c.args.function.now c.args.number c.in-Some.update (omega (arith, c.in-Some.ensures))
    (ap (λ (us : List Update). slice_get us c.in-Some.update) (sym c.deref.ensures.value) ∙ c.in-None-update_at.ensures)
