use Rattle.std.proofs.Common.{arith}
use Rattle.shares.specs.Repeated.{SpanLiesIn}
use Rattle.shares.proofs.Repeating.{zip_more, zip_all}
use Rattle.shares.proofs.repeated.spans_lie_in.Goals as goal

pub loop-place-preserved : goal.loop-place-preserved
loop-place-preserved c =
    let k = c.loop-place.place in
    let less = c.loop-place-test.true in
    let long = c.loop-place.invariant.long in
    record {
      lie = zip_more SpanLiesIn c.args.inner.now c.args.outer.now k c.index-inner-place.result c.index-outer-place.result c.index-inner-place.is c.index-outer-place.is
          less (omega (arith, less, long)) c.loop-place.invariant.lie (c.span_lies_in.ensures c.if-not-span_lies_in.false);
      long = long;
    }

pub returns : goal.returns
returns c _ =
    let past = c.loop-place-test.false in
    let long = c.loop-place.invariant.long in
    zip_all SpanLiesIn c.args.inner.now c.args.outer.now c.loop-place.place (omega (arith, past)) (omega (arith, past, long)) c.loop-place.invariant.lie
