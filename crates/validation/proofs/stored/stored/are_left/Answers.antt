use Rattle.std.proofs.Common.{◌≡◌, subst, arith, map, true}
use Rattle.std.proofs.lemmas.Grind.{common_steps}
use Rattle.plan.specs.declared.stmt.Coordinate.{Coordinate as CoordinateHeld}
use Rattle.plan.specs.Plan.{Coordinate}
use Rattle.plan.specs.View.{coordinate_of, index_of}
use Rattle.algo.specs.Parts.{names_of}
use Rattle.algo.specs.View.{algorithm_of}
use Rattle.soundness.specs.Outline.View.{outline_in, plan_in}
use Rattle.tree.specs.Term.{list_terms}
use Rattle.validation.specs.Stored.Stored.{index_is_small}
use Rattle.validation.proofs.StoredRowed.{uneven_left, all_at}
use Rattle.validation.proofs.stored.stored.are_left.Goals as goal

pub returns-then-variables-at : goal.returns-then-variables-at
returns-then-variables-at c =
    uneven_left (algorithm_of c.args.ground.algo.now) (plan_in c.args.ground.outlined.now) (outline_in c.args.ground.outlined.now) (names_of c.args.variables.now) (list_terms c.args.at.now) (map coordinate_of c.args.coordinates.now)
    (λ e. let same = e.0 in c.if-variables-at.true (grind (arith, common_steps, same)))

pub returns-then-at-coordinates : goal.returns-then-at-coordinates
returns-then-at-coordinates c =
    uneven_left (algorithm_of c.args.ground.algo.now) (plan_in c.args.ground.outlined.now) (outline_in c.args.ground.outlined.now) (names_of c.args.variables.now) (list_terms c.args.at.now) (map coordinate_of c.args.coordinates.now)
    (λ e. let same = e.1 in c.if-at-coordinates.true (grind (arith, common_steps, same)))

pub is_left-requires : goal.is_left-requires
is_left-requires c =
    let small = λ (x : Coordinate). index_is_small x.index in
    subst (λ (v : CoordinateHeld). index_is_small (index_of v.index) ≡ true) c.index-coordinates-i.is
    (all_at small coordinate_of c.args.coordinates.now c.loop-i.i c.index-coordinates-i.result (omega (arith, c.loop-i-test.true, c.if-variables-at.false, c.if-at-coordinates.false)) c.index-coordinates-i.is c.requires)
