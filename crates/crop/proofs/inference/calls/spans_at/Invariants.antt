use Rattle.std.proofs.Common.{◌≡◌, drop, map}
use Rattle.tree.specs.Term.{list_terms, indices}
use Rattle.crop.specs.Inference.Regions.{spans_at}
use Rattle.bounds.proofs.RegionLemmas.{behind}
use Rattle.crop.proofs.inference.calls.spans_at.Given as goal

-- what was made before what is left is the whole
abbrev pub invariant-loop-index : goal.invariant-loop-index
invariant-loop-index g l =
    behind l.made (spans_at l.scope (g.N.Names.functions l.names) (map (λ x. x.now) l.vars) l.region (indices (list_terms (drop l.index-index l.at))))
    ≡ spans_at l.scope (g.N.Names.functions l.names) (map (λ x. x.now) l.vars) l.region (indices (list_terms l.at))
