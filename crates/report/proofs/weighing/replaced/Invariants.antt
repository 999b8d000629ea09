use Rattle.std.proofs.Common.{◌≡◌, take}
use Rattle.std.specs.Prelude.{slice_set}
use Rattle.report.specs.Weighing.{all_weighed}
use Rattle.report.proofs.weighing.replaced.Given as goal

abbrev pub invariant-loop-number : goal.invariant-loop-number
invariant-loop-number l = all_weighed l.more.items ≡ take l.number (slice_set (all_weighed l.weighings) l.place (record { symbol = l.symbol; low = l.low; weights = l.weights }))
