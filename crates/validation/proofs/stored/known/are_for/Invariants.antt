use Rattle.std.proofs.Common.{◌≡◌, drop, map}
use Rattle.plan.specs.View.{coordinate_of}
use Rattle.algo.specs.Parts.{names_of}
use Rattle.validation.specs.Stored.Stored.{are_for}
use Rattle.validation.proofs.stored.known.are_for.Given as goal

abbrev pub invariant-loop-i : goal.invariant-loop-i
invariant-loop-i l = are_for (map coordinate_of (drop l.i l.coordinates)) (names_of (drop l.i l.variables)) ≡ are_for (map coordinate_of l.coordinates) (names_of l.variables)
