use Rattle.lanes.proofs.Wrapped.{product_i8}
use Rattle.lanes.proofs.products.ProductOperatorI8.one.Goals as goal

pub returns : goal.returns
returns c = product_i8 c.args.left c.args.right c.ranges.left c.ranges.right
