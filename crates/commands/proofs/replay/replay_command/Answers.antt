use Rattle.std.proofs.Common.{ap, inl, inr, subst}
use Rattle.std.specs.Prelude.{IfErr, OnOk}
use Rattle.std.proofs.lemmas.Result.{IfErr-weaker, err_from_is_err_and, on_ok_weaker}
use Rattle.meaning.specs.Algorithm.{Algorithm}
use Rattle.algo.specs.View.{algorithm_of}
use Rattle.commands.proofs.Kept.{same_then}
use Rattle.commands.proofs.Sourced.{check_refused, check_unread, is_checked, is_replayed, not_replayed, plan_of_file}
use Rattle.commands.proofs.Ways.{told}
use Rattle.commands.specs.Asked.{replay_asked}
use Rattle.commands.specs.Sources.{IsPlayable, IsUnplayed}
use Rattle.commands.proofs.replay.replay_command.Goals as goal

pub returns-in_err-algo-clause-refused : goal.returns-in_err-algo-clause-refused
returns-in_err-algo-clause-refused g c =
    let e = c.in_err-algo.field-0.0 in
    let p = err_from_is_err_and c.from_residual.result c.from_residual.ensures.1 in
    told _ c.from_residual.result p.0 e p.1 p.2 (inr (inl (check_unread _ _ e c.in_err-algo.ensures.refused)))

pub returns-in_err-checked-clause-same : goal.returns-in_err-checked-clause-same
returns-in_err-checked-clause-same g c =
    same_then _ _ _ c.algorithm_file.ensures.same c.plan_in.ensures.same

pub returns-in_err-checked-clause-refused : goal.returns-in_err-checked-clause-refused
returns-in_err-checked-clause-refused g c =
    let e = c.in_err-checked.field-0.0 in
    let p = err_from_is_err_and c.from_residual-in_err-checked.result c.from_residual-in_err-checked.ensures.1 in
    told _ c.from_residual-in_err-checked.result p.0 e p.1 p.2 (inr (inl (check_refused _ _ _ c.in_ok-algo.ensures.said _ c.algorithm_file.ensures.same e c.in_err-checked.ensures.refused)))

pub returns-clause-same : goal.returns-clause-same
returns-clause-same g c =
    same_then _ _ _ (same_then _ _ _ c.algorithm_file.ensures.same c.plan_in.ensures.same) c.replayed.ensures.same

pub returns-clause-done : goal.returns-clause-done
returns-clause-done g c =
    let checked = is_checked _ _ _ c.in_ok-algo.ensures.said _ c.algorithm_file.ensures.same (plan_of_file _ _ _ c.in_ok-checked.checked c.in_ok-checked.ensures.accepted) in
    let Done : Algorithm → Type 0 = λ x. OnOk c.replayed.result (IsPlayable (g.F.Files.contents c.plan_in.new.files) (replay_asked c.args.request.now) x) in
    on_ok_weaker c.replayed.result (is_replayed _ _ checked _ (same_then _ _ _ c.algorithm_file.ensures.same c.plan_in.ensures.same))
    (subst Done (ap algorithm_of c.in_ok-checked.ensures.algo) c.replayed.ensures.done)

pub returns-clause-refused : goal.returns-clause-refused
returns-clause-refused g c =
    let checked = is_checked _ _ _ c.in_ok-algo.ensures.said _ c.algorithm_file.ensures.same (plan_of_file _ _ _ c.in_ok-checked.checked c.in_ok-checked.ensures.accepted) in
    let Refused : Algorithm → Type 0 = λ x. IfErr c.replayed.result (IsUnplayed (g.F.Files.contents c.plan_in.new.files) (replay_asked c.args.request.now) x) in
    IfErr-weaker c.replayed.result _ _ (not_replayed _ _ checked _ (same_then _ _ _ c.algorithm_file.ensures.same c.plan_in.ensures.same))
    (subst Refused (ap algorithm_of c.in_ok-checked.ensures.algo) c.replayed.ensures.refused)
