-- No file changes until the kinds are put.
use Rattle.std.proofs.Common.{inl, inr, length}
use Rattle.std.proofs.lemmas.Result.{err_from_is_err_and, on_ok_weaker}
use Rattle.crop.specs.Scene.{scene_of}
use Rattle.commands.proofs.Kept.{same_refl}
use Rattle.commands.proofs.Tiled.{all_put, cut_by, with_err}
use Rattle.commands.proofs.Ways.{told}
use Rattle.commands.specs.Asked.{tiles_asked}
use Rattle.commands.specs.Pictures.{IsOfDevice}
use Rattle.commands.specs.Tilings.{IsCutBy, IsCutUnput, SameBeside, kinds_of}
use Rattle.commands.proofs.tiles_command.put_cut.Goals as goal

pub returns-in_err-tiles-clause-refused : goal.returns-in_err-tiles-clause-refused
returns-in_err-tiles-clause-refused g c =
    let e = c.in_err-tiles.field-0.0 in
    let p = err_from_is_err_and c.from_residual.result c.from_residual.ensures.1 in
    told _ c.from_residual.result p.0 e p.1 p.2 (inl (same_refl _, c.in_err-tiles.ensures.refused))

pub returns-clause-done : goal.returns-clause-done
returns-clause-done g c =
    let tiles = c.in_ok-tiles.tiles in
    let cut = c.in_ok-tiles.ensures.tiles in
    let by : IsCutBy (tiles_asked c.args.request.now) (scene_of c.args.scene.now) (kinds_of tiles) cut.all.lines = cut_by (tiles_asked c.args.request.now) (scene_of c.args.scene.now) tiles cut in
    on_ok_weaker c.put_tiles.result (λ put. (kinds_of tiles, cut.all.lines, by, all_put _ _ _ _ _ _ _ (same_refl _) put cut.all.list)) c.put_tiles.ensures.put

pub returns-clause-refused : goal.returns-clause-refused
returns-clause-refused g c =
    let tiles = c.in_ok-tiles.tiles in
    let cut = c.in_ok-tiles.ensures.tiles in
    let by : IsCutBy (tiles_asked c.args.request.now) (scene_of c.args.scene.now) (kinds_of tiles) cut.all.lines = cut_by (tiles_asked c.args.request.now) (scene_of c.args.scene.now) tiles cut in
    let old = g.F.Files.contents c.args.files.now in
    let new = g.F.Files.contents c.put_tiles.new.files in
    with_err c.put_tiles.result (SameBeside old new c.args.request.now.folder.now (length (kinds_of tiles))) IsOfDevice
    (IsCutUnput old new (tiles_asked c.args.request.now) (scene_of c.args.scene.now)) c.put_tiles.ensures.others c.put_tiles.ensures.device
    (λ others fault device. inr (kinds_of tiles, cut.all.lines, by, (device, others)))
