use Rattle.std.proofs.lemmas.Result.{err_from_is_err_and}
use Rattle.algo.specs.View.{algorithm_of, samples_of}
use Rattle.commands.specs.Pipeline.Faults.{plain_fault}
use Rattle.commands.specs.Pipeline.Pictures.{IsBudgetSpent}
use Rattle.commands.proofs.Between.{refuses_pixel}
use Rattle.commands.proofs.Ways.{told}
use Rattle.commands.proofs.pipeline.without_plan.plain_picture.Goals as goal

pub returns-in_err-image-clause-refused : goal.returns-in_err-image-clause-refused
returns-in_err-image-clause-refused g c =
    let a = algorithm_of c.args.algo.now in
    let samples = samples_of c.args.inputs.now in
    let e = c.in_err-image.field-0.0 in
    let p = err_from_is_err_and c.from_residual.result c.from_residual.ensures.1 in
    told (IsBudgetSpent a samples c.args.budget) c.from_residual.result p.0 (plain_fault e) p.1 p.2 (refuses_pixel a samples c.args.budget e c.in_err-image.ensures.spent)
