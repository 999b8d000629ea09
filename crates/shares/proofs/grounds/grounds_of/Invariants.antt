use Rattle.std.proofs.Common.{◌≡◌}
use Rattle.plan.specs.View.{plan_of}
use Rattle.plan.specs.Certificate.Certificate.{certificate_of}
use Rattle.plan.specs.Certificate.Cells.{first_cell, first_piece}
use Rattle.shares.specs.Grounds.{AreGrounds}
use Rattle.shares.proofs.grounds.grounds_of.Given as goal

abbrev pub invariant-loop-number : goal.invariant-loop-number
invariant-loop-number l = record {
  grounds : AreGrounds (plan_of l.plan) (certificate_of l.cert) l.number l.grounds.items;
  cell : l.first_cell ≡ first_cell (plan_of l.plan).groups l.number;
  piece : l.first_piece ≡ first_piece (plan_of l.plan).groups l.number;
}
