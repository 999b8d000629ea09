use Rattle.std.proofs.Common.{◌≡◌, true, sym, ap, subst, ◌∙◌}
use Rattle.std.proofs.Props.{props}
use Rattle.std.proofs.Math.Logic.{∥∥₁_elim}
use Rattle.meaning.specs.Image.Raster.{is_within}
use Rattle.checked_plan.specs.declared.checked.Checked.{Checked}
use Rattle.checked_plan.specs.View.{algorithm_checked, plan_checked}
use Rattle.checked_plan.specs.Output.Cells.{number_of_point}
use Rattle.crew.proofs.opening.cells.CheckedCellsSource.cell_of.Goals as goal

pub cell_of-requires : goal.cell_of-requires
cell_of-requires c =
    ∥∥₁_elim c.args.self.now.same (search props) (λ same.
    subst (λ (x : Checked). is_within (algorithm_checked x).output_extents c.args.point.now ≡ true) (sym same) c.requires)

pub returns : goal.returns
returns c =
    ∥∥₁_elim c.args.self.now.same (search props) (λ same.
    c.cell_of.ensures.number ∙ ap (λ (x : Checked). number_of_point (algorithm_checked x) (plan_checked x) c.args.point.now) same)
