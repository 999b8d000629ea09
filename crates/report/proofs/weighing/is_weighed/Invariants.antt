use Rattle.std.proofs.Common.{◌≡◌, take, false}
use Rattle.report.specs.Weighing.{all_weighed, is_weighed}
use Rattle.report.proofs.weighing.is_weighed.Given as goal

abbrev pub invariant-loop-weighing : goal.invariant-loop-weighing
invariant-loop-weighing l = is_weighed (all_weighed (take l.weighing-index l.weighings)) l.symbol ≡ false
