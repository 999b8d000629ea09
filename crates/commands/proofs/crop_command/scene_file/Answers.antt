use Rattle.std.proofs.Common.{◌⊎◌, inl, inr, refl, subst}
use Rattle.std.proofs.lemmas.Result.{IfErr-weaker, IfOk-weaker, err_from_is_err_and}
use Rattle.crop.specs.Scene.{IsSceneText, scene_of}
use Rattle.commands.proofs.Kept.{of_device}
use Rattle.commands.proofs.Ways.{told}
use Rattle.commands.specs.Crops.{IsSceneFault, IsSceneFile, TextRefused}
use Rattle.commands.specs.Pictures.{IsOfDevice}
use Rattle.commands.specs.Status.{fault_of}
use Rattle.commands.proofs.crop_command.scene_file.Goals as goal

pub returns-in_err-bytes-clause-refused : goal.returns-in_err-bytes-clause-refused
returns-in_err-bytes-clause-refused g c =
    let e = c.in_err-bytes.field-0.0 in
    let p = err_from_is_err_and c.from_residual.result c.from_residual.ensures.1 in
    told _ c.from_residual.result p.0 (fault_of e) p.1 p.2 (inl (of_device e (fault_of e) refl))

pub returns-clause-said : goal.returns-clause-said
returns-clause-said g c =
    let files = g.F.Files.contents c.args.files.now in
    IfOk-weaker c.scene_in.result (λ scene. IsSceneText c.as_slice.result.now (scene_of scene)) (λ scene. IsSceneFile files c.args.name.now (scene_of scene)) (λ scene h. record {
      text = c.in_ok-bytes.bytes.items;
      holds_text = c.in_ok-bytes.ensures.bytes;
      is_text = subst (λ text. IsSceneText text (scene_of scene)) c.as_slice.ensures.value h;
    }) c.scene_in.ensures.said

pub returns-clause-refused : goal.returns-clause-refused
returns-clause-refused g c =
    let files = g.F.Files.contents c.args.files.now in
    IfErr-weaker c.scene_in.result (IsSceneFault c.as_slice.result.now) (λ fault. IsOfDevice fault ⊎ TextRefused files c.args.name.now fault) (λ fault h. inr (record {
      text = c.in_ok-bytes.bytes.items;
      holds_text = c.in_ok-bytes.ensures.bytes;
      refused = subst (λ text. IsSceneFault text fault) c.as_slice.ensures.value h;
    })) c.scene_in.ensures.refused
