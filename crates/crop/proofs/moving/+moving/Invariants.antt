use Rattle.std.proofs.Common.{◌≡◌, ◌+◌, ◌*◌, take, length}
use Rattle.tree.specs.Term.{term_of, test_of, list_terms, indices}
use Rattle.tree.specs.Tree.{node_count, node_counts, cond_count}
use Rattle.crop.specs.Plan.{each_moved}
use Rattle.crop.specs.View.{move_of}
use Rattle.crop.proofs.moving.+moving.Given as goal

abbrev pub decreases-moved : goal.decreases-moved
decreases-moved l = 4 * node_count (term_of l.expr.now)

abbrev pub decreases-side_moved : goal.decreases-side_moved
decreases-side_moved l = 4 * node_count (term_of l.expr.now) + 1

abbrev pub decreases-side_boxed : goal.decreases-side_boxed
decreases-side_boxed l = 4 * node_count (term_of l.expr.now) + 2

abbrev pub decreases-negated_moved : goal.decreases-negated_moved
decreases-negated_moved l = 4 * node_count (term_of l.value.now) + 3

abbrev pub decreases-operator_moved : goal.decreases-operator_moved
decreases-operator_moved l = 4 * (node_count (term_of l.left.now) + node_count (term_of l.right.now)) + 3

abbrev pub decreases-clamp_moved : goal.decreases-clamp_moved
decreases-clamp_moved l = 4 * (node_count (term_of l.value.now) + node_count (term_of l.low.now) + node_count (term_of l.high.now)) + 3

abbrev pub decreases-choice_moved : goal.decreases-choice_moved
decreases-choice_moved l = 4 * (cond_count (test_of l.cond.now) + node_count (term_of l.yes.now) + node_count (term_of l.no.now)) + 3

abbrev pub decreases-call_moved : goal.decreases-call_moved
decreases-call_moved l = 4 * node_counts (indices (list_terms l.at.now)) + 2

abbrev pub decreases-all_moved : goal.decreases-all_moved
decreases-all_moved l = 4 * node_counts (indices (list_terms l.at.now)) + 1

abbrev pub decreases-test_moved : goal.decreases-test_moved
decreases-test_moved l = 4 * cond_count (test_of l.cond.now)

abbrev pub decreases-compare_moved : goal.decreases-compare_moved
decreases-compare_moved l = 4 * (node_count (term_of l.left.now) + node_count (term_of l.right.now)) + 3

abbrev pub invariant-all_moved-loop-index : goal.invariant-all_moved-loop-index
invariant-all_moved-loop-index l = record {
  terms : list_terms l.made.items ≡ each_moved (move_of l.mover) l.origin (list_terms (take l.index-index l.at));
  count : length l.made.items ≡ l.index-index;
}
