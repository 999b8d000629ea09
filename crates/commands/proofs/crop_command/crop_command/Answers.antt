-- The files stay as they are until the text is put; what was read before then is the reason of each refusal.
use Rattle.std.proofs.lemmas.Result.{IfErr-weaker, on_ok_weaker}
use Rattle.commands.proofs.Cropped.{tile_put, tile_refused}
use Rattle.commands.proofs.crop_command.crop_command.Goals as goal

pub returns-clause-done : goal.returns-clause-done
returns-clause-done g c =
    on_ok_weaker c.put_tile.result (tile_put _ _ _ c.in_ok-scene.ensures.said _ c.scene_file.ensures.same _) c.put_tile.ensures.done

pub returns-clause-refused : goal.returns-clause-refused
returns-clause-refused g c =
    IfErr-weaker c.put_tile.result _ _ (tile_refused _ _ _ c.in_ok-scene.ensures.said _ c.scene_file.ensures.same _) c.put_tile.ensures.refused
