use Rattle.report.proofs.Handing.{here_weighed}
use Rattle.report.proofs.weighing.is_weighed.Goals as goal

pub returns-then-weighing-symbol : goal.returns-then-weighing-symbol
returns-then-weighing-symbol c =
    here_weighed c.args.weighings.now c.loop-weighing.weighing-index c.weighing-item.result c.args.symbol c.loop-weighing-test.true c.weighing-item.is c.if-weighing-symbol.true
