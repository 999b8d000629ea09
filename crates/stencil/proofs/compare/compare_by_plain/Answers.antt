use Rattle.std.proofs.Common.{◌^◌, inl, map}
use Rattle.std.proofs.lemmas.Result.{err_from_is_err_and}
use Rattle.algo.specs.View.{algorithm_of, samples_of}
use Rattle.stencil.specs.Compares.{IsRefusedAmong}
use Rattle.commands.specs.Pipeline.Pictures.{IsBudgetSpent}
use Rattle.stencil.proofs.Schedules.{on_right}
use Rattle.stencil.proofs.compare.compare_by_plain.Goals as goal

-- the plain picture was not computed
pub returns-in_err-picture-clause-refused : goal.returns-in_err-picture-clause-refused
returns-in_err-picture-clause-refused g c =
    let p = err_from_is_err_and c.from_residual.result c.from_residual.ensures.1 in
    rw p.1 (inl (rw p.2 c.in_err-picture.ensures.refused))

-- a schedule is refused
pub returns-clause-refused : goal.returns-clause-refused
returns-clause-refused g c =
    on_right (IsBudgetSpent (algorithm_of c.args.algo.now) (samples_of c.args.inputs.now) (2 ^ 32))
    (IsRefusedAmong (g.F.Files.contents c.args.files.now) (algorithm_of c.args.algo.now) (map (λ name. name.now) c.args.names.now))
    c.compare_schedules.result c.compare_schedules.ensures.refused
