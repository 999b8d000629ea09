use Rattle.std.proofs.Common.{◌≡◌, drop, map}
use Rattle.std.specs.List.{list_all}
use Rattle.plan.specs.View.{coordinate_of}
use Rattle.algo.specs.View.{algorithm_of}
use Rattle.soundness.specs.Outline.View.{outline_in, plan_in}
use Rattle.validation.specs.Stored.Stored.{is_named, is_call, index_is_known}
use Rattle.validation.proofs.stored.known.indices_are_known.Given as goal

abbrev pub invariant-loop-one : goal.invariant-loop-one
invariant-loop-one l = list_all (λ x. index_is_known (is_named (map coordinate_of l.coordinates)) (is_call (algorithm_of l.ground.algo.now) (plan_in l.ground.outlined.now) l.ground.lines (outline_in l.ground.outlined.now)) x.index) (map coordinate_of (drop l.one-index l.coordinates)) ≡ list_all (λ x. index_is_known (is_named (map coordinate_of l.coordinates)) (is_call (algorithm_of l.ground.algo.now) (plan_in l.ground.outlined.now) l.ground.lines (outline_in l.ground.outlined.now)) x.index) (map coordinate_of l.coordinates)
