use Rattle.std.proofs.Common.{◌≡◌}
use Rattle.plan.specs.Plan.{block}
use Rattle.plan.specs.Lists.{list_statements}
use Rattle.report.specs.Subject.{counted_of}
use Rattle.report.specs.Tally.{block_counts}
use Rattle.report.proofs.Places.{from}
use Rattle.report.proofs.subject.+counts.Given as goal

abbrev pub invariant-block_counts-loop-stmt : goal.invariant-block_counts-loop-stmt
invariant-block_counts-loop-stmt l = block_counts (counted_of l.subject) (block (list_statements l.all)) ≡ block_counts (counted_of l.subject) (from l.all l.stmt-index)
