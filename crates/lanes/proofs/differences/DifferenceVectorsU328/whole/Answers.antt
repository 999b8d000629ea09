use Rattle.lanes.proofs.OfVectors.{differences_u32}
use Rattle.lanes.proofs.differences.DifferenceVectorsU328.whole.Goals as goal

pub returns : goal.returns
returns c = differences_u32 c.args.at c.args.a.now c.args.b.now c.args.out.now c.requires.left c.requires.right c.requires.room c.type_inv.a c.type_inv.b
