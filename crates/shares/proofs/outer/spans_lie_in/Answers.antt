use Rattle.std.proofs.Common.{arith, sym, subst}
use Rattle.lin.specs.declared.span.Span1.{Span1}
use Rattle.plan.specs.Certificate.Cells.{grid_symbols}
use Rattle.shares.specs.Boxes.{AreLimited}
use Rattle.shares.specs.Outer.{SpanLiesAt}
use Rattle.shares.proofs.Repeating.{zip_more, zip_all}
use Rattle.shares.proofs.outer.spans_lie_in.Goals as goal

pub loop-place-preserved : goal.loop-place-preserved
loop-place-preserved c =
    let k = c.loop-place.place in
    let less = c.loop-place-test.true in
    let long = c.loop-place.invariant.long in
    record {
      lie = λ at between. zip_more (SpanLiesAt (grid_symbols at)) c.args.inner.now c.args.outer.now k c.index-inner-place.result c.index-outer-place.result c.index-inner-place.is c.index-outer-place.is
          less (omega (arith, less, long)) (c.loop-place.invariant.lie at between) (c.span_lies_in.ensures c.if-not-span_lies_in.false at between);
      long = long;
    }

pub returns : goal.returns
returns c _ at between =
    let past = c.loop-place-test.false in
    let long = c.loop-place.invariant.long in
    zip_all (SpanLiesAt (grid_symbols at)) c.args.inner.now c.args.outer.now c.loop-place.place (omega (arith, past)) (omega (arith, past, long)) (c.loop-place.invariant.lie at between)

pub span_lies_in-requires-clause-inner : goal.span_lies_in-requires-clause-inner
span_lies_in-requires-clause-inner c =
    let P : Span1 → Type 0 = λ x. AreLimited x.lower × AreLimited x.upper in
    subst P (sym c.index-inner-place.is) (c.requires.inner c.loop-place.place _ c.loop-place-test.true)

pub span_lies_in-requires-clause-outer : goal.span_lies_in-requires-clause-outer
span_lies_in-requires-clause-outer c =
    let P : Span1 → Type 0 = λ x. AreLimited x.lower × AreLimited x.upper in
    subst P (sym c.index-outer-place.is) (c.requires.outer c.loop-place.place _ (let less = c.loop-place-test.true in let long = c.loop-place.invariant.long in omega (arith, less, long)))
