-- The files stay as they are until the file is put.
use Rattle.std.proofs.Common.{List, ℕ, inl, subst, sym}
use Rattle.std.proofs.lemmas.Result.{IfErr-weaker, err_from_is_err_and, on_ok_weaker}
use Rattle.algo.specs.View.{algorithm_of}
use Rattle.commands.proofs.Kept.{put_then, unput_then}
use Rattle.commands.proofs.Ways.{told}
use Rattle.commands.specs.Asked.{draw_asked}
use Rattle.commands.specs.Sources.{IsDrawingOf, IsUndrawn}
use Rattle.commands.proofs.draw_command.put_drawing.Goals as goal

pub returns-in_err-file-clause-refused : goal.returns-in_err-file-clause-refused
returns-in_err-file-clause-refused g c =
    let e = c.in_err-file.field-0.0 in
    let p = err_from_is_err_and c.from_residual.result c.from_residual.ensures.1 in
    told _ c.from_residual.result p.0 e p.1 p.2 (inl (c.drawing_of.ensures.same, c.in_err-file.ensures.refused))

pub returns-clause-done : goal.returns-clause-done
returns-clause-done g c =
    let Is : List ℕ → Type 0 = λ bytes. IsDrawingOf (g.F.Files.contents c.args.files.now) (draw_asked c.args.request.now) (algorithm_of c.args.algo.now) bytes in
    let made = subst Is (sym c.as_slice.ensures.value) c.in_ok-file.ensures.drawn in
    on_ok_weaker c.put_file.result (put_then _ _ _ _ Is c.as_slice.result.now c.drawing_of.ensures.same made) c.put_file.ensures.put

pub returns-clause-refused : goal.returns-clause-refused
returns-clause-refused g c =
    let Is : List ℕ → Type 0 = λ bytes. IsDrawingOf (g.F.Files.contents c.args.files.now) (draw_asked c.args.request.now) (algorithm_of c.args.algo.now) bytes in
    let made = subst Is (sym c.as_slice.ensures.value) c.in_ok-file.ensures.drawn in
    let Why = IsUndrawn (g.F.Files.contents c.args.files.now) (draw_asked c.args.request.now) (algorithm_of c.args.algo.now) in
    IfErr-weaker c.put_file.result _ _ (unput_then _ _ _ _ Is c.as_slice.result.now c.drawing_of.ensures.same made Why) c.put_file.ensures.kept
