use Rattle.std.proofs.Common.{refl}
use Rattle.std.proofs.lemmas.Result.{err_from_is_err_and}
use Rattle.stencil.specs.Compiling.{IsScheduleRefused}
use Rattle.commands.specs.Pipeline.Faults.{schedule_fault}
use Rattle.commands.proofs.Ways.{told}
use Rattle.stencil.proofs.compiling.read_schedule.Goals as goal

pub returns-in_err-read-clause-refused : goal.returns-in_err-read-clause-refused
returns-in_err-read-clause-refused c =
    let text = c.args.text.now in
    let e = c.in_err-read.field-0.0 in
    let p = err_from_is_err_and c.from_residual.result c.from_residual.ensures.1 in
    told (IsScheduleRefused text) c.from_residual.result p.0 (schedule_fault e) p.1 p.2 (record { error = e; refused = c.in_err-read.ensures.refused; is = refl })
