use Rattle.plan.specs.View.{plan_of}
use Rattle.plan.specs.Certificate.Certificate.{certificate_of}
use Rattle.shares.specs.Owned.{IsFirstFlaw}
use Rattle.shares.proofs.own.parted_flaw.Given as goal

abbrev pub invariant-loop-group : goal.invariant-loop-group
invariant-loop-group l = IsFirstFlaw (plan_of l.layout.plan.now) (certificate_of l.layout.cert.now) l.group l.told
