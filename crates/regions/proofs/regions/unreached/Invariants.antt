use Rattle.std.proofs.Common.{◌≡◌, replicate, None}
use Rattle.regions.proofs.regions.unreached.Given as goal

abbrev pub invariant-loop-place : goal.invariant-loop-place
invariant-loop-place l = l.reach.items ≡ replicate l.place None
