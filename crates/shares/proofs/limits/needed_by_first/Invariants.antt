use Rattle.std.proofs.Common.{◌≡◌, ◌+◌, ◌^◌}
use Rattle.plan.specs.View.{plan_of}
use Rattle.plan.specs.Certificate.Certificate.{certificate_of}
use Rattle.shares.specs.Blocks.{IsWalkFrom}
use Rattle.shares.specs.Counts.{with_needs}
use Rattle.shares.specs.Has.{needed_before}
use Rattle.shares.proofs.limits.needed_by_first.Given as goal

abbrev pub invariant-loop-piece : goal.invariant-loop-piece
invariant-loop-piece l = record {
  room : l.room + needed_before (plan_of l.layout.plan.now) (with_needs (certificate_of l.layout.cert.now) l.fn.count) l.piece ≡ 2 ^ 24;
  walk : IsWalkFrom l.layout.seats.items l.gathered.items l.piece l.walk;
}
