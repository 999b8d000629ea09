use Rattle.std.proofs.Common.{◌≡◌, drop}
use Rattle.checked_plan.specs.Output.Axes.{rank_of}
use Rattle.checked_plan.proofs.output.axis.rank_of.Given as goal

abbrev pub invariant-loop-place : goal.invariant-loop-place
invariant-loop-place l = l.rank ≡ rank_of (drop l.place l.axes) (drop l.place l.at)
