use Rattle.std.proofs.Common.{arith}
use Rattle.shares.specs.Repeated.{IsUnder}
use Rattle.shares.proofs.Repeating.{zip_more, zip_all}
use Rattle.shares.proofs.repeated.are_under.Goals as goal

pub loop-place-preserved : goal.loop-place-preserved
loop-place-preserved c =
    let k = c.loop-place.place in
    let less = c.loop-place-test.true in
    let long = c.loop-place.invariant.long in
    record {
      under = zip_more IsUnder c.args.low.now c.args.high.now k c.index-low-place.result c.index-high-place.result c.index-low-place.is c.index-high-place.is
          less (omega (arith, less, long)) c.loop-place.invariant.under (c.is_under.ensures c.if-not-is_under.false);
      long = long;
    }

pub returns : goal.returns
returns c _ =
    let past = c.loop-place-test.false in
    let long = c.loop-place.invariant.long in
    zip_all IsUnder c.args.low.now c.args.high.now c.loop-place.place (omega (arith, past)) (omega (arith, past, long)) c.loop-place.invariant.under
