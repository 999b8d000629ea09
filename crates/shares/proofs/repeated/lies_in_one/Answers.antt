use Rattle.shares.proofs.Repeating.{lies_at}
use Rattle.shares.proofs.repeated.lies_in_one.Goals as goal

pub returns-then-lies_in : goal.returns-then-lies_in
returns-then-lies_in c _ =
    lies_at c.args.lines.now c.loop-line.line-index c.line-item.result c.args.need.now c.line-item.is c.loop-line-test.true (c.lies_in.ensures c.if-lies_in.true)
