use Rattle.std.proofs.Common.{◌≡◌, length}
use Rattle.std.specs.Prelude.{IsTrue, IsFalse}
use Rattle.plan.specs.View.{plan_of}
use Rattle.plan.specs.Certificate.Certificate.{certificate_of}
use Rattle.plan.specs.Certificate.Cells.{cells}
use Rattle.orders.specs.Claimed.{IsClaimed}
use Rattle.shares.specs.Made.{Leaves}
use Rattle.shares.specs.Owned.{own_in}
use Rattle.shares.proofs.Owning.{InsideBefore}
use Rattle.shares.proofs.own.owned_in.Given as goal

abbrev pub invariant-loop-piece : goal.invariant-loop-piece
invariant-loop-piece l = record {
  claimed : IsClaimed (own_in (plan_of l.layout.plan.now) (certificate_of l.layout.cert.now) l.group) l.owners l.piece 0;
  count : length l.owners ≡ length (cells (plan_of l.layout.plan.now));
  inside : IsTrue l.inside → InsideBefore (plan_of l.layout.plan.now) (certificate_of l.layout.cert.now) l.group l.piece;
  leaves : IsFalse l.inside → Leaves (plan_of l.layout.plan.now) (certificate_of l.layout.cert.now) l.group;
}
