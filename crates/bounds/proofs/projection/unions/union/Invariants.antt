use Rattle.std.proofs.Common.{◌≡◌, drop}
use Rattle.bounds.specs.Projection.Unions.{union_of}
use Rattle.bounds.proofs.RegionLemmas.{behind}
use Rattle.bounds.proofs.projection.unions.union.Given as goal

-- what was made before what is left is the whole
abbrev pub invariant-loop-place : goal.invariant-loop-place
invariant-loop-place l = behind l.made (union_of l.scope (drop l.place l.first) (drop l.place l.second)) ≡ union_of l.scope l.first l.second
