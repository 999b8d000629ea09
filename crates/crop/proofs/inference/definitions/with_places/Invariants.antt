use Rattle.std.proofs.Common.{◌≡◌, drop, take, map}
use Rattle.std.specs.Prelude.{fold, flat_map}
use Rattle.tree.specs.Term.{list_terms}
use Rattle.meaning.specs.Conditions.{callable}
use Rattle.algo.specs.Scoping.Standing.{calls_of}
use Rattle.algo.specs.View.{algorithm_of}
use Rattle.bounds.specs.Projection.Unions.{with_region}
use Rattle.crop.specs.Inference.Regions.{regions_of}
use Rattle.crop.proofs.inference.definitions.with_places.Given as goal

-- what is found with what is left is what is found with all
abbrev pub invariant-loop-place : goal.invariant-loop-place
invariant-loop-place l =
    fold (with_region l.sought.scope.now) l.found (flat_map (λ e. regions_of l.sought.scope.now (callable (algorithm_of l.names.algo.now) (take l.names.count (algorithm_of l.names.algo.now).functions)) (map (λ x. x.now) l.vars) l.spans l.sought.inner.now l.sought.callee.now (calls_of e)) (list_terms (drop l.place-index l.at)))
    ≡ fold (with_region l.sought.scope.now) l.fn.known (flat_map (λ e. regions_of l.sought.scope.now (callable (algorithm_of l.names.algo.now) (take l.names.count (algorithm_of l.names.algo.now).functions)) (map (λ x. x.now) l.vars) l.spans l.sought.inner.now l.sought.callee.now (calls_of e)) (list_terms l.at))
