use Rattle.std.proofs.Common.{◌≡◌, drop, map}
use Rattle.std.specs.Prelude.{fold}
use Rattle.tree.specs.Term.{list_terms, indices}
use Rattle.algo.specs.Scoping.Standing.{calls_of_all}
use Rattle.bounds.specs.Projection.Unions.{with_region}
use Rattle.crop.specs.Inference.Regions.{regions_of}
use Rattle.crop.proofs.inference.calls.+calls.Given as goal

-- what is found with what is left is what is found with all
abbrev pub invariant-with_calls_of_all-loop-index : goal.invariant-with_calls_of_all-loop-index
invariant-with_calls_of_all-loop-index g l =
    fold (with_region l.sought.scope.now) l.found (regions_of l.sought.scope.now (g.N.Names.functions l.names) (map (λ x. x.now) l.vars) l.region l.sought.inner.now l.sought.callee.now (calls_of_all (indices (list_terms (drop l.index-index l.at)))))
    ≡ fold (with_region l.sought.scope.now) l.fn.known (regions_of l.sought.scope.now (g.N.Names.functions l.names) (map (λ x. x.now) l.vars) l.region l.sought.inner.now l.sought.callee.now (calls_of_all (indices (list_terms l.at))))
