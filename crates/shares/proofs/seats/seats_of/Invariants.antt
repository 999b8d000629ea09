use Rattle.std.proofs.Common.{◌≡◌, ◌++◌, drop}
use Rattle.plan.specs.View.{plan_of}
use Rattle.plan.specs.Certificate.Cells.{pieces, pieces_from}
use Rattle.shares.specs.Seats.{AreSmall, pieces_of}
use Rattle.shares.proofs.seats.seats_of.Given as goal

abbrev pub invariant-loop-group : goal.invariant-loop-group
invariant-loop-group l = record {
  pieces : pieces_of l.seats.items ++ pieces_from l.group (drop l.group (plan_of l.plan).groups) ≡ pieces (plan_of l.plan);
  small : AreSmall l.seats.items;
}
