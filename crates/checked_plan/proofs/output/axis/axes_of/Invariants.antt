use Rattle.std.proofs.Common.{◌≡◌, take}
use Rattle.checked_plan.specs.Output.Axes.{axes_of}
use Rattle.checked_plan.proofs.output.axis.axes_of.Given as goal

abbrev pub invariant-loop-span : goal.invariant-loop-span
invariant-loop-span l = l.axes.items ≡ axes_of (take l.span-index l.region)
