use Rattle.std.proofs.Common.{◌≡◌, drop, map}
use Rattle.plan.specs.View.{coordinate_of}
use Rattle.validation.specs.Stored.Stored.{is_named}
use Rattle.validation.proofs.stored.known.is_named.Given as goal

abbrev pub invariant-loop-one : goal.invariant-loop-one
invariant-loop-one l = is_named (map coordinate_of (drop l.one-index l.coordinates)) l.name ≡ is_named (map coordinate_of l.coordinates) l.name
