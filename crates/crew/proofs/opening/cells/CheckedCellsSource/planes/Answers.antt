use Rattle.std.proofs.Common.{◌≡◌, ap, sym, subst, ◌∙◌}
use Rattle.std.proofs.Props.{props}
use Rattle.std.proofs.Math.Logic.{∥∥₁_elim}
use Rattle.meaning.specs.Image.View.{AreExtents, Frame}
use Rattle.algo.specs.Parts.{output_frame}
use Rattle.board.specs.Shown.{StandInPlanes}
use Rattle.checked_plan.specs.declared.checked.Checked.{Checked}
use Rattle.checked_plan.specs.View.{algorithm_checked, plan_checked}
use Rattle.checked_plan.specs.Output.Cells.{OutputFollows}
use Rattle.crew.specs.Opening.Layouts.{layout_of}
use Rattle.crew.specs.Opening.Planes.{planes_from}
use Rattle.crew.proofs.Standing.{stand}
use Rattle.crew.proofs.opening.cells.CheckedCellsSource.planes.Goals as goal

pub planes_from-requires : goal.planes_from-requires
planes_from-requires c = subst AreExtents (sym c.as_slice.ensures.value) c.output-output.ensures.valid.extents

pub returns : goal.returns
returns c =
    let x = c.args.self.now.checked.now in
    let first = c.in-Some.first in
    let extents : c.as_slice.result.now ≡ (algorithm_checked x).output_extents =
    c.as_slice.ensures.value ∙ ap (λ (f : Frame). f.extents) (c.output-output.ensures.shape ∙ ap output_frame c.algo.ensures) in
    let planes = c.planes_from.ensures ∙ ap (planes_from first) extents in
    let follow : OutputFollows (algorithm_checked x) (plan_checked x) first =
    λ at on. ∥∥₁_elim c.args.self.now.same (hlevel props) (λ same.
    subst (λ (y : Checked). OutputFollows (algorithm_checked y) (plan_checked y) first) same c.in-Some.ensures at on) in
    subst (StandInPlanes (layout_of x)) (sym planes) (stand x first follow)
