use Rattle.std.proofs.Common.{arith}
use Rattle.pnm.proofs.InParts.{whole_read}
use Rattle.pnm.proofs.whole.raster_at.Goals as goal

pub returns-then-left-bytes : goal.returns-then-left-bytes
returns-then-left-bytes c = (
  omega (arith, c.loop-at-test.true),
  whole_read c.args.wanted.now c.args.bytes.now c.loop-at.at c.in-Some.left c.loop-at.state (λ i. (c.type_inv.bytes i).fits) c.loop-at.invariant c.in-Some.ensures.0 (omega (arith, c.if-left-bytes)),
)
