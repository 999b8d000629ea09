use Rattle.std.proofs.Common.{◌≡◌, drop}
use Rattle.std.specs.Prelude.{map, fold, Some, List}
use Rattle.lin.specs.declared.span.Span1.{Span1}
use Rattle.bounds.specs.Projection.Unions.{with_region, united}
use Rattle.bounds.proofs.projection.unions.union_of_all.Given as goal

abbrev pub invariant-loop-region : goal.invariant-loop-region
invariant-loop-region l = united l.scope (map (λ (r : List Span1). Some r) l.regions) ≡ fold (with_region l.scope) l.found (map (λ (r : List Span1). Some r) (drop l.region-index l.regions))
