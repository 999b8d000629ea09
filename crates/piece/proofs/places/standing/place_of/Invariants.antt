use Rattle.std.proofs.Common.{◌≡◌, ◌+◌}
use Rattle.plan.specs.Certificate.Cells.{first_piece}
use Rattle.plan.specs.View.{plan_of}
use Rattle.piece.proofs.places.standing.place_of.Given as goal

abbrev pub invariant-loop-group : goal.invariant-loop-group
invariant-loop-group l = l.fn.piece ≡ first_piece (plan_of l.plan).groups l.group + l.rank
