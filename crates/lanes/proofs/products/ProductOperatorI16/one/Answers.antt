use Rattle.lanes.proofs.Wrapped.{product_i16}
use Rattle.lanes.proofs.products.ProductOperatorI16.one.Goals as goal

pub returns : goal.returns
returns c = product_i16 c.args.left c.args.right c.ranges.left c.ranges.right
