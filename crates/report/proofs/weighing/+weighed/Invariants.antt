use Rattle.plan.specs.Lists.{list_statements}
use Rattle.plan.specs.Plan.{block}
use Rattle.report.specs.Subject.{counted_of}
use Rattle.report.specs.Weighing.{all_weighed}
use Rattle.report.proofs.Handing.{IsWeighedSum}
use Rattle.report.proofs.Places.{from}
use Rattle.report.proofs.weighing.+weighed.Given as goal

abbrev pub invariant-weighed_block-loop-stmt : goal.invariant-weighed_block-loop-stmt
invariant-weighed_block-loop-stmt l = IsWeighedSum (counted_of l.subject) l.known (all_weighed l.weighings) (block (list_statements l.all)) l.here.items (from l.all l.stmt-index) l.total
