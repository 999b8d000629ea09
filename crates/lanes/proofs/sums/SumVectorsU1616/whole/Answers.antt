use Rattle.lanes.proofs.OfVectors.{sums_u16}
use Rattle.lanes.proofs.sums.SumVectorsU1616.whole.Goals as goal

pub returns : goal.returns
returns c = sums_u16 c.args.at c.args.a.now c.args.b.now c.args.out.now c.requires.left c.requires.right c.requires.room c.type_inv.a c.type_inv.b
