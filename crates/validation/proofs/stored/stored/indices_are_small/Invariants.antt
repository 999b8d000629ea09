use Rattle.std.proofs.Common.{◌≡◌, drop, map}
use Rattle.std.specs.List.{list_all}
use Rattle.plan.specs.View.{coordinate_of}
use Rattle.validation.specs.Stored.Stored.{index_is_small}
use Rattle.validation.proofs.stored.stored.indices_are_small.Given as goal

abbrev pub invariant-loop-one : goal.invariant-loop-one
invariant-loop-one l = list_all (λ x. index_is_small x.index) (map coordinate_of (drop l.one-index l.coordinates)) ≡ list_all (λ x. index_is_small x.index) (map coordinate_of l.coordinates)
