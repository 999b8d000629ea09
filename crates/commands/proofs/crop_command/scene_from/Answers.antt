use Rattle.std.proofs.lemmas.Result.{err_from_is_err_and}
use Rattle.commands.specs.Crops.{IsSceneRefused}
use Rattle.commands.specs.Pipeline.Faults.{scene_fault}
use Rattle.commands.proofs.Cropped.{scene_refused}
use Rattle.commands.proofs.Ways.{told}
use Rattle.commands.proofs.crop_command.scene_from.Goals as goal

pub returns-in_err-read-clause-refused : goal.returns-in_err-read-clause-refused
returns-in_err-read-clause-refused c =
    let text = c.args.text.now in
    let e = c.in_err-read.field-0.0 in
    let p = err_from_is_err_and c.from_residual.result c.from_residual.ensures.1 in
    told (IsSceneRefused text) c.from_residual.result p.0 (scene_fault e) p.1 p.2 (scene_refused text e c.in_err-read.ensures.refused c.in_err-read.ensures.only)
