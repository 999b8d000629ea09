use Rattle.std.proofs.Common.{sym, ap, ◌∙◌}
use Rattle.bounds.specs.Spans.{depth, highest}
use Rattle.bounds.proofs.Sizes.{opposite_fits, ends_found}
use Rattle.bounds.proofs.ends.constant_ends.Goals as goal

pub overflow_sub-result : goal.overflow_sub-result
overflow_sub-result c = opposite_fits c.args.scope.now c.as_slice.result.now c.in-Some.below (sym c.in-Some.is ∙ c.in_ok-below.ensures)

pub returns : goal.returns
returns c = ends_found c.args.scope.now c.args.span.now c.in-Some.below c.in-Some-2.high
    (sym c.in-Some.is ∙ c.in_ok-below.ensures ∙ ap (depth c.args.scope.now) c.as_slice.ensures)
    (sym c.in-Some-2.is ∙ c.in_ok-high.ensures ∙ ap (highest c.args.scope.now) c.as_slice-2.ensures)
