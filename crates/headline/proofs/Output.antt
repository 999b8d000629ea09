-- The picture's samples are among the cells.
use Rattle.std.proofs.Common.{Option, ap, ◌∙◌}
use Rattle.std.proofs.lemmas.Option.{slice_get_within}
use Rattle.meaning.specs.Image.Raster.{raster_point}
use Rattle.meaning.specs.Value.{calls_of}
use Rattle.plan.specs.Plan.{Group}
use Rattle.plan.specs.Certificate.Cells.{cells}
use Rattle.plan.specs.Semantics.Setting.{group_name}
use Rattle.headline.specs.Numbers.{cell_number}
use Rattle.headline.specs.Work.{value_or_zero}
use Rattle.headline.specs.Theorem.{output_cell, OutputIsThere}
use Rattle.headline.proofs.Places.{cell_stands}

pub output_there : OutputIsThere
output_there a p samples o g n ends e name h inside =
    let at = raster_point a.output_extents n in
    let stands = cell_stands p (output_cell a o n) ends inside in (
      slice_get_within (cells p) (cell_number p (output_cell a o n)) (output_cell a o n) stands,
      stands,
      ap (value_or_zero a p samples) stands ∙ ap (λ (x : Option Group). (calls_of a samples (group_name x) at).number) e ∙ ap (λ x. (calls_of a samples x at).number) name,
    )
