use Rattle.std.proofs.Common.{◌+◌, ap, sym, ◌∙◌}
use Rattle.tree.specs.Term.{list_terms, indices, Call}
use Rattle.tree.specs.Tree.{node_count, depth}
use Rattle.tree.proofs.Rows.{term_of-call}
use Rattle.subst.proofs.nodes.call.Goals as goal

pub invariant_of-result : goal.invariant_of-result
invariant_of-result c =
    let e = term_of-call c.in_ok-to_owned.field-0 c.args.row.at c.args.span in
    record {
      counted = ap (λ n. n + 1) c.args.row.counted ∙ ap node_count (sym e);
      deep = ap (λ n. n + 1) c.args.row.deep ∙ ap depth (sym e);
      few = c.in_ok-allowed.ensures.0;
      flat = c.in_ok-allowed.ensures.1;
    }

pub returns : goal.returns
returns c =
    term_of-call c.in_ok-to_owned.field-0 c.args.row.at c.args.span
    ∙ ap (λ n. Call n (indices (list_terms c.args.row.at.items))) c.in_ok-to_owned.ensures.ok
