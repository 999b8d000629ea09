use Rattle.std.proofs.Common.{ap, Err}
use Rattle.std.proofs.lemmas.Result.{err_from_is_err_and}
use Rattle.crop.specs.Scene.{scene_of}
use Rattle.commands.specs.Crops.{IsUncut}
use Rattle.commands.specs.Pipeline.Faults.{crop_fault}
use Rattle.commands.proofs.Cropped.{uncut_of}
use Rattle.commands.proofs.Ways.{told}
use Rattle.commands.proofs.crop_command.tile_at.Goals as goal

pub returns-in_err-cut-clause-refused : goal.returns-in_err-cut-clause-refused
returns-in_err-cut-clause-refused c =
    let a = scene_of c.args.scene.now in
    let e = c.in_err-cut.field-0.0 in
    let p = err_from_is_err_and c.from_residual.result c.from_residual.ensures.1 in
    told (IsUncut a c.args.rect) c.from_residual.result p.0 (crop_fault e) p.1 p.2 (uncut_of a c.args.rect e (λ is. c.in_err-cut.ensures.outside.0 (ap Err is)))
