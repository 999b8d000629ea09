use Rattle.std.proofs.Common.{ℕ, ◌<◌}
use Rattle.plan.specs.View.{plan_of}
use Rattle.plan.specs.Certificate.Certificate.{certificate_of}
use Rattle.audit.specs.Refused.{IsUnownedEnd}
use Rattle.audit.proofs.answer.ends_unowned.Given as goal

abbrev pub invariant-loop-number : goal.invariant-loop-number
invariant-loop-number l = (k : ℕ) → k < l.number → ¬ IsUnownedEnd (plan_of l.plan) (certificate_of l.cert) l.line k
