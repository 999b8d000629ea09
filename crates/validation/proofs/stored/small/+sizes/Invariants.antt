use Rattle.std.proofs.Common.{◌≡◌, take}
use Rattle.tree.specs.Term.{list_terms, indices}
use Rattle.tree.specs.Tree.{node_counts, depths}
use Rattle.validation.specs.Stored.Sizes.{counted}
use Rattle.validation.proofs.stored.small.+sizes.Given as goal

abbrev pub invariant-size_of_all-loop-index : goal.invariant-size_of_all-loop-index
invariant-size_of_all-loop-index l = record {
  nodes : l.total.nodes ≡ counted (node_counts (indices (list_terms (take l.index-index l.at))));
  levels : l.total.levels ≡ counted (depths (indices (list_terms (take l.index-index l.at))));
}
