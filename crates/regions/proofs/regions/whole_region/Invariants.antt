use Rattle.std.proofs.Common.{◌≡◌, ◌++◌, drop, map}
use Rattle.sched.specs.Bounded.{whole}
use Rattle.regions.proofs.regions.whole_region.Given as goal

abbrev pub invariant-loop-extent : goal.invariant-loop-extent
invariant-loop-extent l = l.region ++ map whole (drop l.extent-index l.laid.region.items) ≡ map whole l.laid.region.items
