use Rattle.std.proofs.Common.{◌≡◌, ◌+◌, ◌^◌}
use Rattle.plan.specs.View.{plan_of}
use Rattle.plan.specs.Certificate.Certificate.{certificate_of}
use Rattle.shares.specs.Blocks.{IsWalkFrom}
use Rattle.shares.specs.Has.{fetched_before, needed_before}
use Rattle.shares.proofs.Looking.{AreMadeBefore}
use Rattle.shares.proofs.lists.lists_of.Given as goal

abbrev pub invariant-loop-piece : goal.invariant-loop-piece
invariant-loop-piece l = record {
  made : AreMadeBefore (plan_of l.layout.plan.now) (certificate_of l.layout.cert.now) l.piece l.lists.items;
  cells : l.cells + fetched_before (plan_of l.layout.plan.now) l.piece ≡ 2 ^ 26;
  pieces : l.pieces + needed_before (plan_of l.layout.plan.now) (certificate_of l.layout.cert.now) l.piece ≡ 2 ^ 24;
  walk : IsWalkFrom l.layout.seats.items l.gathered.items l.piece l.walk;
}
