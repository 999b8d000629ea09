use Rattle.checked_plan.specs.View.{algorithm_checked, certificate_checked, plan_checked}
use Rattle.report.proofs.Totals.{whole_stores, AreLeft}
use Rattle.report.proofs.within.stores_within.Given as goal

abbrev pub invariant-loop-number : goal.invariant-loop-number
invariant-loop-number l =
    AreLeft (plan_checked l.checked) (certificate_checked l.checked) l.all.entries
    (whole_stores (algorithm_checked l.checked) (plan_checked l.checked) (certificate_checked l.checked)) l.most l.number l.left
