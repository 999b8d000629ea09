use Rattle.std.proofs.Common.{◌*◌, ◌/◌, ◌≤◌}
use Rattle.shares.specs.Taken.{AreMarked}
use Rattle.shares.proofs.taken.take_bits.Given as goal

abbrev pub invariant-loop-place : goal.invariant-loop-place
invariant-loop-place l = record {
  from : l.first / 64 ≤ l.place;
  marked : AreMarked l.initial.words l.words l.first l.end (64 * l.place);
}
