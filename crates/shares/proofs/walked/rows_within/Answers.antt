use Rattle.shares.proofs.Rows.{offset_is}
use Rattle.shares.proofs.walked.rows_within.Goals as goal

pub returns : goal.returns
returns c = let e = offset_is c.args.part c.args.extent c.requires.extent c.requires.low c.requires.high in let h = c.rows_of.ensures in simp e at h
