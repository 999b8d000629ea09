use Rattle.std.proofs.Common.{IfErr, sym, subst}
use Rattle.std.proofs.lemmas.Result.{err_from_is_err_and}
use Rattle.expr.specs.Statements.View.{file_text}
use Rattle.algo.specs.View.{algorithm_of}
use Rattle.crop.specs.Texts.{IsNarrow}
use Rattle.crop.specs.Scene.{scene_of, IsNoScene}
use Rattle.crop.proofs.Scenes.{form_only, narrow_said, scene_text, answered_refused, answered_place, answered_only}
use Rattle.crop.proofs.scene.Scene.read.Goals as goal

pub returns-in_err-file-clause-only : goal.returns-in_err-file-clause-only
returns-in_err-file-clause-only c =
    let text = c.args.text.now in
    let p = err_from_is_err_and c.from_residual.result c.from_residual.ensures.1 in
    subst (λ r. IfErr r (IsNoScene text)) (sym p.1) (subst (IsNoScene text) (sym p.2) (form_only text c.in_err-file.field-0.0 c.in_err-file.ensures.refused))

pub of_file-requires : goal.of_file-requires
of_file-requires c =
    let text = c.args.text.now in
    let f = c.in_ok-file.ensures in
    let n : IsNarrow text c.deref.result.now = subst (IsNarrow text) (sym c.deref.ensures) c.in_ok-narrow.ensures in
    narrow_said text c.deref.result.now (file_text c.in_ok-file.file) f.found f.only f.small n (algorithm_of c.in-Ok.algo) c.in-Ok.ensures.said

pub returns-in-Ok-clause-said : goal.returns-in-Ok-clause-said
returns-in-Ok-clause-said c =
    let text = c.args.text.now in
    let f = c.in_ok-file.ensures in
    let n : IsNarrow text c.deref.result.now = subst (IsNarrow text) (sym c.deref.ensures) c.in_ok-narrow.ensures in
    let s = c.in_ok-of_file-in-Ok in
    scene_text text c.deref.result.now (file_text c.in_ok-file.file) f.found f.only f.small n (algorithm_of c.in-Ok.algo) (scene_of s.field-0) c.in-Ok.ensures.said s.ensures

pub returns-clause-refused : goal.returns-clause-refused
returns-clause-refused c =
    let text = c.args.text.now in
    let f = c.in_ok-file.ensures in
    let n : IsNarrow text c.deref.result.now = subst (IsNarrow text) (sym c.deref.ensures) c.in_ok-narrow.ensures in
    answered_refused text c.deref.result.now c.in_ok-file.file f.found f.only f.small n c.in-Err.error c.refusal.result c.in-Err.ensures.refused c.refusal.ensures

pub returns-clause-place : goal.returns-clause-place
returns-clause-place c =
    let text = c.args.text.now in
    let f = c.in_ok-file.ensures in
    let n : IsNarrow text c.deref.result.now = subst (IsNarrow text) (sym c.deref.ensures) c.in_ok-narrow.ensures in
    answered_place text c.deref.result.now c.in_ok-file.file f.found f.only f.small n c.in-Err.error c.refusal.result c.in-Err.ensures.place c.refusal.ensures

pub returns-clause-only : goal.returns-clause-only
returns-clause-only c =
    let text = c.args.text.now in
    let f = c.in_ok-file.ensures in
    let n : IsNarrow text c.deref.result.now = subst (IsNarrow text) (sym c.deref.ensures) c.in_ok-narrow.ensures in
    answered_only text c.deref.result.now c.in_ok-file.file f.found f.only f.small n c.in-Err.error c.refusal.result c.in-Err.ensures.refused c.refusal.ensures
