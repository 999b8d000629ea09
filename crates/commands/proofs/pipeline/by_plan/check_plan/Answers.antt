use Rattle.std.proofs.lemmas.Result.{err_from_is_err_and}
use Rattle.algo.specs.View.{algorithm_of}
use Rattle.commands.specs.Pipeline.Faults.{plan_fault}
use Rattle.commands.specs.Pipeline.PlanFiles.{IsFileRefused}
use Rattle.commands.proofs.Between.{refuses_plan}
use Rattle.commands.proofs.Ways.{told}
use Rattle.commands.proofs.pipeline.by_plan.check_plan.Goals as goal

pub returns-in_err-check-clause-refused : goal.returns-in_err-check-clause-refused
returns-in_err-check-clause-refused g c =
    let a = algorithm_of c.args.algo.now in
    let file = c.args.file.now in
    let e = c.in_err-check.field-0.0 in
    let p = err_from_is_err_and c.from_residual-in_err-check.result c.from_residual-in_err-check.ensures.1 in
    told (IsFileRefused a file) c.from_residual-in_err-check.result p.0 (plan_fault e) p.1 p.2
    (refuses_plan a file c.in_ok-plan.plan c.in_ok-plan.cert e c.in_ok-plan.ensures.said c.in_err-check.ensures.refused)
