use Rattle.std.proofs.Common.{◌≡◌, ◌++◌, drop, map}
use Rattle.plan.specs.Lines.{group_line}
use Rattle.plan.specs.View.{plan_of}
use Rattle.soundness.specs.Outline.Flaws.{line_told}
use Rattle.shares.specs.FetchLines.{fetch_lines_from, plan_fetch_lines}
use Rattle.shares.specs.Noted.{lines_noted, told_line}
use Rattle.shares.proofs.counts.fetch_lines.Given as goal

abbrev pub invariant-loop-number : goal.invariant-loop-number
invariant-loop-number l = record {
  lines : lines_noted l.noted.items ++ map told_line (fetch_lines_from (plan_of l.plan) l.number (drop l.number (plan_of l.plan).groups)) ≡ map told_line (plan_fetch_lines (plan_of l.plan));
  begins : l.line ≡ line_told (group_line (plan_of l.plan) l.number);
}
