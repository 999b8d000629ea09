use Rattle.std.proofs.Common.{inl}
use Rattle.shares.proofs.answer.unserved.Goals as goal

pub returns : goal.returns
returns c means = inl (c.args.group, means, c.needs_line-line.ensures)
