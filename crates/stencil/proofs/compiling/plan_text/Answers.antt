use Rattle.std.proofs.Common.{inr}
use Rattle.std.proofs.lemmas.Result.{err_from_is_err_and}
use Rattle.algo.specs.View.{algorithm_of}
use Rattle.sched.specs.View.{schedule_of}
use Rattle.stencil.specs.Compiling.{IsNotLowered}
use Rattle.stencil.proofs.compiling.plan_text.Goals as goal

pub returns-in_err-plan-clause-refused : goal.returns-in_err-plan-clause-refused
returns-in_err-plan-clause-refused c =
    let p = err_from_is_err_and c.from_residual.result c.from_residual.ensures.1 in
    let refused : IsNotLowered (algorithm_of c.args.algo.now) (schedule_of c.args.sched.now) p.0 = rw p.2 c.in_err-plan.ensures.refused in
    rw p.1 (inr refused)

pub returns-clause-made : goal.returns-clause-made
returns-clause-made c = record { made = c.in_ok-plan.plan; lowered = c.in_ok-plan.ensures.made; written = c.in_ok-written.ensures }
