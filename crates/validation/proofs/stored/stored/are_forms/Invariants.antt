use Rattle.std.proofs.Common.{◌≡◌, drop, map}
use Rattle.std.specs.List.{list_all}
use Rattle.plan.specs.View.{coordinate_of}
use Rattle.soundness.specs.Obligations.{is_form}
use Rattle.validation.proofs.stored.stored.are_forms.Given as goal

abbrev pub invariant-loop-one : goal.invariant-loop-one
invariant-loop-one l = list_all is_form (map coordinate_of (drop l.one-index l.coordinates)) ≡ list_all is_form (map coordinate_of l.coordinates)
