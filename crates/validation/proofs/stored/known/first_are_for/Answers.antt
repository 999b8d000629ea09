use Rattle.std.proofs.Common.{◌≡◌, ◌∙◌, ap, arith, List, length}
use Rattle.std.proofs.lemmas.Grind.{common_steps}
use Rattle.plan.specs.Plan.{Coordinate}
use Rattle.plan.specs.View.{coordinate_of}
use Rattle.algo.specs.Parts.{names_of}
use Rattle.validation.specs.Stored.Stored.{are_for}
use Rattle.validation.proofs.StoredRowed.{first_mapped}
use Rattle.validation.proofs.stored.known.first_are_for.Goals as goal

pub returns : goal.returns
returns c =
    let vs = names_of c.args.variables.now in
    let long : length c.args.variables.now ≡ length vs = grind (arith, common_steps) in
    c.are_for.ensures ∙ ap (λ (cs : List Coordinate). are_for cs vs) (first_mapped coordinate_of c.args.coordinates.now c.first_of.result.now (length c.args.variables.now) (length vs) c.first_of.ensures long)
