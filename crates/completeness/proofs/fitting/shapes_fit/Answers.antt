use Rattle.completeness.specs.Fitting.{ShapesFit}
use Rattle.completeness.proofs.Shapes.{shaped}
use Rattle.completeness.proofs.fitting.shapes_fit.Goals as goal

shapes_fit : ShapesFit
shapes_fit a s l well legal small regions groups splits = shaped a s l well legal small (regions splits.whole).0 splits.whole groups splits.once

pub returns : goal.returns
returns c = shapes_fit
