use Rattle.std.proofs.Common.{List, subst}
use Rattle.std.specs.List.{AllZip}
use Rattle.lin.specs.declared.span.Span1.{Span1}
use Rattle.shares.specs.Repeated.{SpanLiesIn}
use Rattle.shares.proofs.Repeating.{spans_lie}
use Rattle.shares.proofs.repeated.lies_in.Goals as goal

pub returns : goal.returns
returns c h =
    let k = c.is_between_same.ensures c.if-not-is_between_same.false in
    let n = c.args.inner.now in
    let m = c.args.outer.now in
    let region : AllZip SpanLiesIn n.region m.region =
    subst (λ (xs : List Span1). AllZip SpanLiesIn xs m.region) c.as_slice.ensures (subst (AllZip SpanLiesIn c.as_slice.result.now) c.as_slice-2.ensures (c.spans_lie_in.ensures h)) in
    spans_lie n m k.0 k.1 region
