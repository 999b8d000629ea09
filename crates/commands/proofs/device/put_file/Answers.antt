use Rattle.std.proofs.Common.{refl}
use Rattle.std.proofs.lemmas.Result.{err_from_is_err_and}
use Rattle.commands.proofs.Kept.{of_device}
use Rattle.commands.proofs.Ways.{told}
use Rattle.commands.specs.Status.{fault_of}
use Rattle.commands.proofs.device.put_file.Goals as goal

pub returns-in_err-put-clause-kept : goal.returns-in_err-put-clause-kept
returns-in_err-put-clause-kept g c =
    let e = c.in_err-put.field-0.0 in
    let p = err_from_is_err_and c.from_residual.result c.from_residual.ensures.1 in
    told _ c.from_residual.result p.0 (fault_of e) p.1 p.2 (of_device e (fault_of e) refl, c.in_err-put.ensures.others)
