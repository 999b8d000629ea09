use Rattle.lanes.proofs.Wrapped.{product_i32}
use Rattle.lanes.proofs.products.ProductOperatorI32.one.Goals as goal

pub returns : goal.returns
returns c = product_i32 c.args.left c.args.right c.ranges.left c.ranges.right
