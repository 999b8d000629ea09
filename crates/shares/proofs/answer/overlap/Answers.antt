use Rattle.std.proofs.Common.{inl}
use Rattle.shares.proofs.answer.overlap.Goals as goal

pub returns : goal.returns
returns c means = inl (c.args.group, means, c.own_line-line.ensures)
