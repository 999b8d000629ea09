use Rattle.std.proofs.Common.{◌^◌, ◌<◌}
use Rattle.report.proofs.Grids.{AreUnderWay}
use Rattle.report.proofs.costs.known_at.Given as goal

abbrev pub invariant-loop-extent : goal.invariant-loop-extent
invariant-loop-extent l = record {
  way : AreUnderWay l.grid l.rank l.extent-index l.known.items l.rest;
  small : l.rest < 2 ^ 32;
}
