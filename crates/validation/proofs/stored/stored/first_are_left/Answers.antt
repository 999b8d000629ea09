use Rattle.std.proofs.Common.{◌≡◌, sym, subst, arith, List, length, map, true}
use Rattle.std.specs.Prelude.{IfOk}
use Rattle.std.specs.List.{list_all}
use Rattle.std.proofs.lemmas.Grind.{common_steps}
use Rattle.plan.specs.declared.stmt.Coordinate.{Coordinate as CoordinateHeld}
use Rattle.plan.specs.Plan.{Coordinate}
use Rattle.plan.specs.View.{coordinate_of}
use Rattle.algo.specs.Parts.{names_of}
use Rattle.algo.specs.View.{algorithm_of}
use Rattle.soundness.specs.Outline.View.{outline_in, plan_in}
use Rattle.tree.specs.Term.{list_terms}
use Rattle.validation.specs.Stored.Stored.{are_left, index_is_small}
use Rattle.validation.proofs.StoredRowed.{first_mapped, all_take}
use Rattle.validation.proofs.stored.stored.first_are_left.Goals as goal

pub are_left-requires : goal.are_left-requires
are_left-requires c =
    let small = λ (x : Coordinate). index_is_small x.index in
    subst (λ (cs : List CoordinateHeld). list_all small (map coordinate_of cs) ≡ true) (sym c.first_of.ensures) (all_take small coordinate_of c.args.coordinates.now (length c.args.variables.now) c.requires)

pub returns : goal.returns
returns c =
    let vs = names_of c.args.variables.now in
    let long : length c.args.variables.now ≡ length vs = grind (arith, common_steps) in
    subst (λ (cs : List Coordinate). IfOk c.are_left.result (λ yes. yes ≡ are_left (algorithm_of c.args.ground.algo.now) (plan_in c.args.ground.outlined.now) (outline_in c.args.ground.outlined.now) vs (list_terms c.args.at.now) cs))
    (first_mapped coordinate_of c.args.coordinates.now c.first_of.result.now (length c.args.variables.now) (length vs) c.first_of.ensures long) c.are_left.ensures
