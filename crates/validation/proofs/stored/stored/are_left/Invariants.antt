use Rattle.std.proofs.Common.{◌≡◌, drop, map}
use Rattle.plan.specs.View.{coordinate_of}
use Rattle.algo.specs.Parts.{names_of}
use Rattle.algo.specs.View.{algorithm_of}
use Rattle.soundness.specs.Outline.View.{outline_in, plan_in}
use Rattle.tree.specs.Term.{list_terms}
use Rattle.validation.specs.Stored.Stored.{are_left}
use Rattle.validation.proofs.stored.stored.are_left.Given as goal

abbrev pub invariant-loop-i : goal.invariant-loop-i
invariant-loop-i l =
    are_left (algorithm_of l.ground.algo.now) (plan_in l.ground.outlined.now) (outline_in l.ground.outlined.now) (names_of (drop l.i l.variables)) (list_terms (drop l.i l.at)) (map coordinate_of (drop l.i l.coordinates))
    ≡ are_left (algorithm_of l.ground.algo.now) (plan_in l.ground.outlined.now) (outline_in l.ground.outlined.now) (names_of l.variables) (list_terms l.at) (map coordinate_of l.coordinates)
