use Rattle.std.proofs.Common.{ap, subst}
use Rattle.std.specs.Prelude.{IfErr, OnOk}
use Rattle.std.proofs.lemmas.Result.{IfErr-weaker, err_from_is_err_and, on_ok_weaker}
use Rattle.meaning.specs.Algorithm.{Algorithm}
use Rattle.algo.specs.View.{algorithm_of}
use Rattle.commands.specs.Pipeline.PlanFiles.{HasPlan}
use Rattle.commands.specs.Pipeline.Pictures.{IsDoneByPlan, IsRefusedByFile, IsRefusedByPlan}
use Rattle.commands.proofs.Between.{file_refused}
use Rattle.commands.proofs.Ways.{told}
use Rattle.commands.proofs.pipeline.by_plan.run_file.Goals as goal

pub returns-in_err-checked-clause-refused : goal.returns-in_err-checked-clause-refused
returns-in_err-checked-clause-refused g c =
    let a = algorithm_of c.args.algo.now in
    let file = c.args.file.now in
    let read = g.S.Source.remaining c.args.source.now in
    let held = g.K.Sink.contents c.args.sink.now in
    let e = c.in_err-checked.field-0.0 in
    let p = err_from_is_err_and c.from_residual.result c.from_residual.ensures.1 in
    told (IsRefusedByFile a file read read held held) c.from_residual.result p.0 e p.1 p.2
    (λ text said. file_refused text read held file a e said c.in_err-checked.ensures.refused)

pub returns-clause-done : goal.returns-clause-done
returns-clause-done g c =
    let file = c.args.file.now in
    let read = g.S.Source.remaining c.args.source.now in
    let left = g.S.Source.remaining c.run_checked.new.source in
    let held = g.K.Sink.contents c.args.sink.now in
    let holds = g.K.Sink.contents c.run_checked.new.sink in
    let plan : HasPlan (algorithm_of c.args.algo.now) file = (c.in_ok-checked.checked.plan, c.in_ok-checked.checked.cert, c.in_ok-checked.ensures.accepted) in
    let Done : Algorithm → Type 0 = λ x. OnOk c.run_checked.result (IsDoneByPlan x read left held holds) in
    on_ok_weaker c.run_checked.result (λ h. h file plan) (subst Done (ap algorithm_of c.in_ok-checked.ensures.checked) c.run_checked.ensures.done)

pub returns-clause-refused : goal.returns-clause-refused
returns-clause-refused g c =
    let file = c.args.file.now in
    let read = g.S.Source.remaining c.args.source.now in
    let left = g.S.Source.remaining c.run_checked.new.source in
    let held = g.K.Sink.contents c.args.sink.now in
    let holds = g.K.Sink.contents c.run_checked.new.sink in
    let plan : HasPlan (algorithm_of c.args.algo.now) file = (c.in_ok-checked.checked.plan, c.in_ok-checked.checked.cert, c.in_ok-checked.ensures.accepted) in
    let Refused : Algorithm → Type 0 = λ x. IfErr c.run_checked.result (IsRefusedByPlan x read left held holds) in
    IfErr-weaker c.run_checked.result _ _ (λ fault h. h file plan) (subst Refused (ap algorithm_of c.in_ok-checked.ensures.checked) c.run_checked.ensures.refused)
