use Rattle.std.proofs.Common.{arith}
use Rattle.std.proofs.lemmas.Int.{to_z-of_z}
use Rattle.bounds.proofs.Saturation.{product_between}
use Rattle.bounds.proofs.ends.product_ends.Goals as goal

pub returns : goal.returns
returns c = grind (arith, to_z-of_z, product_between)
