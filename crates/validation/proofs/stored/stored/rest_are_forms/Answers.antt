use Rattle.std.proofs.Common.{◌∙◌, ap, refl, List}
use Rattle.std.specs.List.{list_all}
use Rattle.plan.specs.Plan.{Coordinate}
use Rattle.plan.specs.View.{coordinate_of}
use Rattle.soundness.specs.Obligations.{is_form}
use Rattle.validation.proofs.StoredRowed.{rest_mapped}
use Rattle.validation.proofs.stored.stored.rest_are_forms.Goals as goal

pub returns : goal.returns
returns c = c.are_forms.ensures ∙ ap (λ (cs : List Coordinate). list_all is_form cs) (rest_mapped coordinate_of c.args.coordinates.now c.rest_of.result.now c.args.count c.args.count c.rest_of.ensures refl)
