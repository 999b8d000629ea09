use Rattle.std.proofs.Common.{inl}
use Rattle.std.proofs.lemmas.Result.{IfErr-weaker, err_from_is_err_and}
use Rattle.commands.proofs.Kept.{on_ok, same_then}
use Rattle.commands.proofs.Sourced.{check_refused, check_unread, is_checked, plan_of_file}
use Rattle.commands.proofs.Ways.{told}
use Rattle.commands.proofs.plan_command.plan_command.Goals as goal

pub returns-in_err-algo-clause-refused : goal.returns-in_err-algo-clause-refused
returns-in_err-algo-clause-refused g c =
    let e = c.in_err-algo.field-0.0 in
    let p = err_from_is_err_and c.from_residual.result c.from_residual.ensures.1 in
    told _ c.from_residual.result p.0 e p.1 p.2 (check_unread _ _ e c.in_err-algo.ensures.refused)

pub returns-in_err-checked-clause-same : goal.returns-in_err-checked-clause-same
returns-in_err-checked-clause-same g c =
    same_then _ _ _ c.algorithm_file.ensures.same c.plan_in.ensures.same

pub returns-in_err-checked-clause-refused : goal.returns-in_err-checked-clause-refused
returns-in_err-checked-clause-refused g c =
    let e = c.in_err-checked.field-0.0 in
    let p = err_from_is_err_and c.from_residual-in_err-checked.result c.from_residual-in_err-checked.ensures.1 in
    told _ c.from_residual-in_err-checked.result p.0 e p.1 p.2 (check_refused _ _ _ c.in_ok-algo.ensures.said _ c.algorithm_file.ensures.same e c.in_err-checked.ensures.refused)

pub returns-clause-same : goal.returns-clause-same
returns-clause-same g c =
    same_then _ _ _ c.algorithm_file.ensures.same c.plan_in.ensures.same

pub returns-clause-done : goal.returns-clause-done
returns-clause-done g c =
    on_ok _ c.tell.result (is_checked _ _ _ c.in_ok-algo.ensures.said _ c.algorithm_file.ensures.same (plan_of_file _ _ _ c.in_ok-checked.checked c.in_ok-checked.ensures.accepted))

pub returns-clause-refused : goal.returns-clause-refused
returns-clause-refused g c =
    IfErr-weaker c.tell.result _ _ (λ fault h. inl h) c.tell.ensures
