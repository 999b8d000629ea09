use Rattle.std.proofs.Common.{◌+◌, arith}
use Rattle.claims.proofs.Firsts.{earlier_line}
use Rattle.claims.proofs.group.at_first_line.Goals as goal

pub loop-low-smaller-in-Some : goal.loop-low-smaller-in-Some
loop-low-smaller-in-Some c =
    let less = earlier_line c.args.bounds.now.bounds (c.loop-low.low + c.div_ceil.result) c.in_ok-earlier.field-0 c.in-Some.earlier c.in_ok-earlier.ensures c.in-Some.is in
    let half = c.div_ceil.ensures in
    let test = c.loop-low-test.true in
    omega (arith, less, half, test)
