use Rattle.plan.proofs.Rows.{statement_of-seq}
use Rattle.blocks.proofs.whole.block_of.Goals as goal

pub returns : goal.returns
returns c = statement_of-seq c.args.inside
