use Rattle.std.proofs.Common.{◌≡◌, drop}
use Rattle.lin.specs.Regions.{inside}
use Rattle.lin.proofs.regions.are_spans_inside.Given as goal

abbrev pub invariant-loop-place : goal.invariant-loop-place
invariant-loop-place l = inside l.scope l.a l.b ≡ inside l.scope (drop l.place l.a) (drop l.place l.b)
