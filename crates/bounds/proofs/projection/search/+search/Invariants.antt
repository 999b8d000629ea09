use Rattle.std.proofs.Common.{◌≡◌, ◌<◌, ◌*◌, ◌+◌, drop}
use Rattle.std.specs.Prelude.{map, fold, Some, []}
use Rattle.lin.specs.Forms.{Form, combined}
use Rattle.lin.specs.Search.{total}
use Rattle.bounds.specs.Projection.Elimination.{both, that_count, branch_bounds, branch_cost}
use Rattle.bounds.proofs.projection.search.+search.Given as goal

abbrev pub decreases-search : goal.decreases-search
decreases-search l = 3 * l.earlier

abbrev pub decreases-branches : goal.decreases-branches
decreases-branches l = 3 * l.symbol + 2

abbrev pub decreases-branch : goal.decreases-branch
decreases-branch l = 3 * l.symbol + 1

abbrev pub invariant-branches-loop-place : goal.invariant-branches-loop-place
invariant-branches-loop-place l = record {
  spent : l.fn.budget + total (λ (other : Form). branch_cost l.scope l.inner l.symbol (combined l.rest l.factor other)) (drop l.place l.candidates)
      ≡ total (λ (other : Form). branch_cost l.scope l.inner l.symbol (combined l.rest l.factor other)) l.candidates + l.left;
  first : l.place ≡ 0 → l.counted ≡ Some [];
  counted : 0 < l.place → that_count l.scope l.largest (map (λ (other : Form). branch_bounds l.scope l.inner l.symbol (combined l.rest l.factor other)) l.candidates)
      ≡ fold (both l.scope l.largest) l.counted (map (λ (other : Form). branch_bounds l.scope l.inner l.symbol (combined l.rest l.factor other)) (drop l.place l.candidates));
}
