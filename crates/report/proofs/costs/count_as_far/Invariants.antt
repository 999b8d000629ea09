use Rattle.std.proofs.Common.{◌≡◌}
use Rattle.checked_plan.specs.View.{certificate_checked, plan_checked}
use Rattle.report.specs.Costs.{up_to}
use Rattle.report.proofs.Pieces.{deeds_before}
use Rattle.report.proofs.costs.count_as_far.Given as goal

abbrev pub invariant-loop-piece : goal.invariant-loop-piece
invariant-loop-piece l = up_to l.enough l.total ≡ up_to l.enough (deeds_before (plan_checked l.checked) (certificate_checked l.checked) l.deed l.function l.piece)
