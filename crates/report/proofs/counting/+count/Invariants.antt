use Rattle.std.proofs.Common.{◌+◌, ◌*◌, ◌^◌, pos, ◌+ℤ◌, ◌-ℤ◌, ◌≤ℤ◌, nat_abs}
use Rattle.plan.specs.Lists.{list_statements}
use Rattle.plan.specs.Plan.{block}
use Rattle.plan.specs.View.{statement_of}
use Rattle.report.specs.Known.{AllSettled}
use Rattle.report.specs.Subject.{counted_of}
use Rattle.report.proofs.Tallies.{IsTurnsSum, IsBlockSum}
use Rattle.report.proofs.Places.{from}
use Rattle.report.proofs.counting.+count.Given as goal

abbrev pub invariant-count_turns-loop-low : goal.invariant-count_turns-loop-low
invariant-count_turns-loop-low l = record {
  low : l.turns.range.low ≤ℤ l.low;
  reach : pos 0 ≤ℤ l.reach;
  total : IsTurnsSum (counted_of l.subject) l.known (statement_of l.body) l.turns l.low l.total;
}

abbrev pub decreases-count_turns-loop-low : goal.decreases-count_turns-loop-low
decreases-count_turns-loop-low l = nat_abs ((l.turns.range.high +ℤ pos 1) -ℤ l.low) * 2 ^ 64 + nat_abs l.reach

abbrev pub invariant-count_block-loop-stmt : goal.invariant-count_block-loop-stmt
invariant-count_block-loop-stmt l = record {
  total : IsBlockSum (counted_of l.subject) l.known (block (list_statements l.all)) l.here.items (from l.all l.stmt-index) l.total;
  settled : AllSettled l.known → AllSettled l.here.items;
}
