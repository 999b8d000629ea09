use Rattle.std.proofs.Common.{◌+◌, take, ap, sym, ◌∙◌}
use Rattle.std.specs.Prelude.{max}
use Rattle.tree.specs.Term.{term_of, list_terms, indices}
use Rattle.tree.specs.Tree.{node_count, node_counts, depth, depths}
use Rattle.validation.specs.Stored.Sizes.{counted}
use Rattle.validation.proofs.Nodes.{nodes_next, levels_next, counted_sum, counted_max, call_nodes, call_levels}
use Rattle.validation.proofs.stored.small.+sizes.Goals as goal

pub size_of_all-loop-index-preserved : goal.size_of_all-loop-index-preserved
size_of_all-loop-index-preserved t c =
    let at = c.args.at.now in
    let i = c.loop-index.index-index in
    let x = c.index-item.result in
    let before = indices (list_terms (take i at)) in
    record {
      nodes =
          c.beside-total.ensures.nodes
          ∙ (λ j. counted (c.loop-index.invariant.nodes j + c.size_of.ensures.nodes j))
          ∙ counted_sum (node_counts before) (node_count (term_of x))
          ∙ ap counted (nodes_next at i x c.loop-index-test.true c.index-item.is);
      levels =
          c.beside-total.ensures.levels
          ∙ (λ j. max (c.loop-index.invariant.levels j) (c.size_of.ensures.levels j))
          ∙ counted_max (depths before) (depth (term_of x))
          ∙ ap counted (levels_next at i x c.loop-index-test.true c.index-item.is);
    }

pub size_of-returns-in-Call-clause-nodes : goal.size_of-returns-in-Call-clause-nodes
size_of-returns-in-Call-clause-nodes t c =
    call_nodes c.in-Call.name c.in-Call.at c.in-Call.span c.deref.result.now c.size_of_all.result.nodes c.below.result.nodes c.deref.ensures.value c.size_of_all.ensures.nodes c.below.ensures.nodes
    ∙ ap (λ e. counted (node_count (term_of e))) (sym c.in-Call.is)

pub size_of-returns-in-Call-clause-levels : goal.size_of-returns-in-Call-clause-levels
size_of-returns-in-Call-clause-levels t c =
    call_levels c.in-Call.name c.in-Call.at c.in-Call.span c.deref.result.now c.size_of_all.result.levels c.below.result.levels c.deref.ensures.value c.size_of_all.ensures.levels c.below.ensures.levels
    ∙ ap (λ e. counted (depth (term_of e))) (sym c.in-Call.is)
