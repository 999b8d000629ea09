use Rattle.std.proofs.Common.{◌-◌}
use Rattle.claims.specs.First.{IsUnmetInGroup}
use Rattle.claims.proofs.group.at_first_line.Given as goal

abbrev pub invariant-loop-low : goal.invariant-loop-low
invariant-loop-low l = IsUnmetInGroup l.bounds.bounds l.found

abbrev pub decreases-loop-low : goal.decreases-loop-low
decreases-loop-low l = l.found.line - l.low
