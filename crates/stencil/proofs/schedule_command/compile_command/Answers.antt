-- The files stay as they are until the plan is put; what was read before then is the reason of each refusal.
use Rattle.std.proofs.lemmas.Result.{IfErr-weaker, err_from_is_err_and, on_ok_weaker}
use Rattle.commands.proofs.Ways.{told}
use Rattle.stencil.proofs.Planned.{compile_refused, compile_unread, plan_put}
use Rattle.stencil.proofs.schedule_command.compile_command.Goals as goal

pub returns-in_err-algo-clause-refused : goal.returns-in_err-algo-clause-refused
returns-in_err-algo-clause-refused g c =
    let e = c.in_err-algo.field-0.0 in
    let p = err_from_is_err_and c.from_residual.result c.from_residual.ensures.1 in
    told _ c.from_residual.result p.0 e p.1 p.2 (compile_unread _ _ _ e c.algorithm_file.ensures.same c.in_err-algo.ensures.refused)

pub returns-clause-done : goal.returns-clause-done
returns-clause-done g c =
    on_ok_weaker c.put_plan.result (plan_put _ _ _ c.in_ok-algo.ensures.said _ c.algorithm_file.ensures.same _) c.put_plan.ensures.done

pub returns-clause-refused : goal.returns-clause-refused
returns-clause-refused g c =
    IfErr-weaker c.put_plan.result _ _ (compile_refused _ _ _ c.in_ok-algo.ensures.said _ c.algorithm_file.ensures.same _) c.put_plan.ensures.refused
