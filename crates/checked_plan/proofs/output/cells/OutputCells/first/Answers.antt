use Rattle.std.proofs.Common.{◌≡◌, ◌∙◌, ℕ, List, ap, subst}
use Rattle.std.specs.Prelude.{IfSome}
use Rattle.meaning.specs.Image.View.{Frame}
use Rattle.algo.specs.Parts.{output_frame}
use Rattle.plan.specs.Plan.{Plan}
use Rattle.checked_plan.specs.View.{algorithm_checked, plan_checked}
use Rattle.checked_plan.specs.Output.Cells.{FollowFrom}
use Rattle.checked_plan.proofs.output.cells.OutputCells.first.Goals as goal

pub returns : goal.returns
returns c =
    let x = c.args.self.now in
    let extents : c.as_slice-extents.result.now ≡ (algorithm_checked x.checked.now).output_extents =
    c.as_slice-extents.ensures.value ∙ ap (λ (f : Frame). f.extents) (c.output.ensures.shape ∙ ap output_frame c.algo.ensures) in
    subst (λ (y : Plan × ℕ × List ℕ). IfSome c.first.result (FollowFrom y.0 y.1 y.2)) (λ i. (plan_checked (x.cells_are i), x.place_is i, extents i)) c.first.ensures
