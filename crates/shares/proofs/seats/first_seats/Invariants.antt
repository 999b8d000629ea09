use Rattle.std.proofs.Common.{◌≡◌, take}
use Rattle.plan.specs.View.{plan_of}
use Rattle.plan.specs.Certificate.Cells.{pieces_from}
use Rattle.shares.specs.Seats.{AreSmall, pieces_of}
use Rattle.shares.proofs.seats.first_seats.Given as goal

abbrev pub invariant-loop-group : goal.invariant-loop-group
invariant-loop-group l = record {
  pieces : pieces_of l.seats.items ≡ pieces_from 0 (take l.group (plan_of l.plan).groups);
  small : AreSmall l.seats.items;
}
