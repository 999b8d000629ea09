use Rattle.std.proofs.Common.{List, subst}
use Rattle.std.specs.List.{AllZip}
use Rattle.lin.specs.declared.span.Span1.{Span1}
use Rattle.plan.specs.Certificate.Cells.{grid_symbols}
use Rattle.shares.specs.Outer.{SpanLiesAt}
use Rattle.shares.proofs.Repeating.{spans_lie_at}
use Rattle.shares.proofs.outer.lies_in.Goals as goal

pub returns : goal.returns
returns c h at between =
    let k = c.is_between_same.ensures c.if-not-is_between_same.false in
    let n = c.args.inner.now in
    let m = c.args.outer.now in
    let Lie = AllZip (SpanLiesAt (grid_symbols at)) in
    let region : Lie n.region m.region =
    subst (λ (xs : List Span1). Lie xs m.region) c.as_slice.ensures (subst (Lie c.as_slice.result.now) c.as_slice-2.ensures (c.spans_lie_in.ensures h at between)) in
    spans_lie_at at n m k.0 k.1 region
