use Rattle.std.proofs.Common.{◌≡◌, length}
use Rattle.plan.specs.View.{plan_of}
use Rattle.plan.specs.Certificate.Cells.{cells}
use Rattle.plan.specs.Certificate.Certificate.{certificate_of}
use Rattle.shares.specs.Owned.{IsFirstFlaw}
use Rattle.shares.proofs.own.unparted_flaw.Given as goal

abbrev pub invariant-loop-group : goal.invariant-loop-group
invariant-loop-group l = record {
  first : IsFirstFlaw (plan_of l.layout.plan.now) (certificate_of l.layout.cert.now) l.group l.found;
  count : length l.owners.items ≡ length (cells (plan_of l.layout.plan.now));
}
