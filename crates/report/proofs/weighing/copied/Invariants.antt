use Rattle.std.proofs.Common.{◌≡◌, take}
use Rattle.report.specs.Weighing.{all_weighed}
use Rattle.report.proofs.weighing.copied.Given as goal

abbrev pub invariant-loop-weighing : goal.invariant-loop-weighing
invariant-loop-weighing l = all_weighed l.more.items ≡ all_weighed (take l.weighing-index l.weighings)
