use Rattle.std.proofs.Common.{inl, inr}
use Rattle.std.proofs.lemmas.Result.{IfErr-weaker, err_from_is_err_and}
use Rattle.sched.specs.View.{schedule_of}
use Rattle.commands.proofs.Ways.{told}
use Rattle.stencil.proofs.Compiled.{plan_of_file}
use Rattle.stencil.proofs.schedule_command.compiled.Goals as goal

pub returns-in_err-sched-clause-refused : goal.returns-in_err-sched-clause-refused
returns-in_err-sched-clause-refused g c =
    let e = c.in_err-sched.field-0.0 in
    let p = err_from_is_err_and c.from_residual.result c.from_residual.ensures.1 in
    told _ c.from_residual.result p.0 e p.1 p.2 (inl c.in_err-sched.ensures.refused)

pub returns-clause-compiled : goal.returns-clause-compiled
returns-clause-compiled g c =
    plan_of_file _ _ _ (schedule_of c.in_ok-sched.sched) c.in_ok-sched.ensures.said c.compile.result c.compile.ensures.of_schedule c.compile.ensures.accepted

pub returns-clause-refused : goal.returns-clause-refused
returns-clause-refused g c =
    IfErr-weaker c.compile.result _ _ (λ fault h. inr (schedule_of c.in_ok-sched.sched, c.in_ok-sched.ensures.said, h)) c.compile.ensures.refused
