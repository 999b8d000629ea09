use Rattle.std.proofs.Common.{◌≡◌, drop, map}
use Rattle.plan.specs.View.{coordinate_of}
use Rattle.algo.specs.View.{algorithm_of}
use Rattle.soundness.specs.Outline.View.{outline_in, plan_in}
use Rattle.tree.specs.Term.{indices, list_terms}
use Rattle.validation.specs.Stored.Stored.{is_named, is_call, are_known}
use Rattle.validation.proofs.stored.known.+known.Given as goal

abbrev pub invariant-are_known-loop-index : goal.invariant-are_known-loop-index
invariant-are_known-loop-index l = are_known (is_named (map coordinate_of l.coordinates)) (is_call (algorithm_of l.ground.algo.now) (plan_in l.ground.outlined.now) l.ground.lines (outline_in l.ground.outlined.now)) (indices (list_terms (drop l.index-index l.at))) ≡ are_known (is_named (map coordinate_of l.coordinates)) (is_call (algorithm_of l.ground.algo.now) (plan_in l.ground.outlined.now) l.ground.lines (outline_in l.ground.outlined.now)) (indices (list_terms l.at))
