-- The files stay as they are until the kinds are put; what was read before then is the reason of each refusal.
use Rattle.std.proofs.lemmas.Result.{IfErr-weaker, on_ok_weaker}
use Rattle.commands.proofs.Tiled.{cut_put, cut_refused}
use Rattle.commands.proofs.tiles_command.tiles_command.Goals as goal

pub returns-clause-done : goal.returns-clause-done
returns-clause-done g c =
    on_ok_weaker c.put_cut.result (cut_put _ _ _ c.in_ok-scene.ensures.said _ c.scene_file.ensures.same _) c.put_cut.ensures.done

pub returns-clause-refused : goal.returns-clause-refused
returns-clause-refused g c =
    IfErr-weaker c.put_cut.result _ _ (cut_refused _ _ _ c.in_ok-scene.ensures.said _ c.scene_file.ensures.same _) c.put_cut.ensures.refused
