-- No file changes until the text is put.
use Rattle.std.proofs.Common.{List, ℕ, inl, inr, subst, sym}
use Rattle.std.proofs.lemmas.Result.{IfErr-weaker, err_from_is_err_and, on_ok_weaker}
use Rattle.crop.specs.Scene.{scene_of}
use Rattle.commands.proofs.Kept.{put_then, same_refl, unput_then}
use Rattle.commands.proofs.Ways.{told}
use Rattle.commands.specs.Crops.{IsTileFile, IsTileText}
use Rattle.commands.proofs.crop_command.put_tile.Goals as goal

pub returns-in_err-tile-clause-refused : goal.returns-in_err-tile-clause-refused
returns-in_err-tile-clause-refused g c =
    let e = c.in_err-tile.field-0.0 in
    let p = err_from_is_err_and c.from_residual.result c.from_residual.ensures.1 in
    told _ c.from_residual.result p.0 e p.1 p.2 (inl (same_refl _, inr c.in_err-tile.ensures.refused))

pub returns-in_err-tell_beside-clause-refused : goal.returns-in_err-tell_beside-clause-refused
returns-in_err-tell_beside-clause-refused g c =
    let e = c.in_err-tell_beside.field-0.0 in
    let p = err_from_is_err_and c.from_residual-in_err-tell_beside.result c.from_residual-in_err-tell_beside.ensures.1 in
    told _ c.from_residual-in_err-tell_beside.result p.0 e p.1 p.2 (inl (same_refl _, inl c.in_err-tell_beside.ensures))

pub returns-clause-done : goal.returns-clause-done
returns-clause-done g c =
    let rect = c.args.request.now.rect in
    let tile = c.in_ok-tile.ensures.tile in
    let Is : List ℕ → Type 0 = λ bytes. IsTileText (scene_of c.args.scene.now) rect tile.part bytes in
    let made = subst Is (sym c.as_bytes.ensures.value) tile.text in
    on_ok_weaker c.put_file.result (put_then _ _ _ _ (IsTileFile (scene_of c.args.scene.now) rect) c.as_bytes.result.now (same_refl _) (tile.part, made)) c.put_file.ensures.put

pub returns-clause-refused : goal.returns-clause-refused
returns-clause-refused g c =
    let rect = c.args.request.now.rect in
    let tile = c.in_ok-tile.ensures.tile in
    let Is : List ℕ → Type 0 = λ bytes. IsTileText (scene_of c.args.scene.now) rect tile.part bytes in
    let made = subst Is (sym c.as_bytes.ensures.value) tile.text in
    IfErr-weaker c.put_file.result _ _
    (unput_then _ _ _ _ (IsTileFile (scene_of c.args.scene.now) rect) c.as_bytes.result.now (same_refl _) (tile.part, made) _) c.put_file.ensures.kept
