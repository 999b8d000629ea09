use Rattle.shares.proofs.Blocking.{lent_limited}
use Rattle.shares.proofs.Keeping.{lies_at}
use Rattle.shares.specs.Outer.{LiesAt}
use Rattle.shares.proofs.outer.lies_in_one.Goals as goal

pub lies_in-requires-clause-outer : goal.lies_in-requires-clause-outer
lies_in-requires-clause-outer c = lent_limited c.args.lines.now c.loop-line.line-index c.line-item.result c.loop-line-test.true c.line-item.is c.requires.lines

pub returns-then-lies_in : goal.returns-then-lies_in
returns-then-lies_in c _ at between =
    lies_at (LiesAt at) c.args.lines.now c.loop-line.line-index c.line-item.result c.args.need.now c.line-item.is c.loop-line-test.true (c.lies_in.ensures c.if-lies_in.true at between)
