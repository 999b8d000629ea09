use Rattle.std.proofs.Common.{◌∙◌, ap, refl, List, map}
use Rattle.plan.specs.Plan.{Coordinate}
use Rattle.plan.specs.View.{coordinate_of}
use Rattle.algo.specs.Parts.{range_of}
use Rattle.validation.specs.Stored.Stored.{are_for}
use Rattle.validation.proofs.StoredRowed.{rest_mapped}
use Rattle.validation.proofs.stored.known.rest_are_for.Goals as goal

pub returns : goal.returns
returns c = c.are_for_ranges.ensures ∙ ap (λ (cs : List Coordinate). are_for cs (map (λ d. d.variable) (map range_of c.args.ranges.now))) (rest_mapped coordinate_of c.args.coordinates.now c.rest_of.result.now c.args.count c.args.count c.rest_of.ensures refl)
