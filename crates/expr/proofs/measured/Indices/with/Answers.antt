use Rattle.std.proofs.Common.{◌≡◌, ◌+◌, ◌∷◌, [], length, length-append, max, ap, ◌∙◌, arith}
use Rattle.std.proofs.lemmas.List.{map-append}
use Rattle.tree.specs.Term.{term_of, list_terms, indices}
use Rattle.tree.specs.Tree.{node_count, node_counts, depth, depths}
use Rattle.expr.proofs.Rows.{counts_push, depths_push}
use Rattle.expr.proofs.measured.Indices.with.Goals as goal

pub invariant_of-result : goal.invariant_of-result
invariant_of-result c =
    let old = c.args.self.items.items in
    let e = c.args.index.expr in
    let terms = ap list_terms c.in_ok-push.ensures.items ∙ map-append term_of old (e ∷ []) in
    let count : node_counts (indices (list_terms c.push.new.self.items)) ≡ node_counts (indices (list_terms old)) + node_count (term_of e) = ap (λ ts. node_counts (indices ts)) terms ∙ counts_push (list_terms old) (term_of e) in
    let height : depths (indices (list_terms c.push.new.self.items)) ≡ max (depths (indices (list_terms old))) (depth (term_of e)) = ap (λ ts. depths (indices ts)) terms ∙ depths_push (list_terms old) (term_of e) in
    let long = ap length c.in_ok-push.ensures.items ∙ length-append old (e ∷ []) in
    record {
      counted = omega (arith, count);
      sounded = omega (arith, height);
      few = omega (arith, long);
      shallow = omega arith;
    }
