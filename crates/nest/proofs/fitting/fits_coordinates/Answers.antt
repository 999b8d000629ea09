use Rattle.std.proofs.Common.{sym, ◌∙◌}
use Rattle.plan.specs.View.{coordinate_of}
use Rattle.nest.specs.Fitting.{fits_coordinate}
use Rattle.nest.proofs.Lists.{all_of_map}
use Rattle.nest.proofs.fitting.fits_coordinates.Goals as goal

pub returns : goal.returns
returns c = c.all_coordinates_fit.ensures ∙ sym (all_of_map fits_coordinate coordinate_of c.args.all.now)
