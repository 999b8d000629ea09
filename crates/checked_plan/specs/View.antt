-- What a checked plan holds.
use Rattle.meaning.specs.Algorithm.{Algorithm}
use Rattle.algo.specs.View.{algorithm_of}
use Rattle.plan.specs.Plan.{Plan}
use Rattle.plan.specs.View.{plan_of}
use Rattle.plan.specs.Certificate.Certificate.{Certificate, certificate_of}
use Rattle.checked_plan.specs.declared.checked.Checked.{Checked}

abbrev pub algorithm_checked : Checked → Algorithm
algorithm_checked x = algorithm_of x.algo.now

abbrev pub plan_checked : Checked → Plan
plan_checked x = plan_of x.plan

abbrev pub certificate_checked : Checked → Certificate
certificate_checked x = certificate_of x.cert
