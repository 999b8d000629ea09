use Rattle.plan.proofs.Rows.{statement_of-seq}
use Rattle.nest.proofs.blocks.blocks.block.Goals as goal

pub returns : goal.returns
returns c = statement_of-seq c.args.inside
