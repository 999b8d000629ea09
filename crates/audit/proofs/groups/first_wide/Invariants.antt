use Rattle.std.specs.Prelude.{MatchOption}
use Rattle.algo.specs.View.{algorithm_of}
use Rattle.plan.specs.View.{plan_of}
use Rattle.plan.specs.Certificate.Certificate.{certificate_of}
use Rattle.audit.specs.Stand.{IsFlaw}
use Rattle.audit.proofs.Told.{NarrowBefore, FirstBefore}
use Rattle.audit.proofs.groups.first_wide.Given as goal

abbrev pub invariant-loop-number : goal.invariant-loop-number
invariant-loop-number l =
    MatchOption l.found (NarrowBefore (algorithm_of l.algo) (plan_of l.plan) (certificate_of l.cert) l.number) (IsFlaw (algorithm_of l.algo) (plan_of l.plan) (certificate_of l.cert))
    × FirstBefore (algorithm_of l.algo) (plan_of l.plan) (certificate_of l.cert) l.number l.found
