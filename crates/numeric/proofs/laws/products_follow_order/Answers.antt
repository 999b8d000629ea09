use Rattle.numeric.proofs.Ints.{distribute, multiple_assoc, multiply_order, multiply_order_negative}
use Rattle.numeric.proofs.laws.products_follow_order.Goals as goal

pub returns : goal.returns
returns c = record { distribute = distribute; group = multiple_assoc; rising = multiply_order; falling = multiply_order_negative }
