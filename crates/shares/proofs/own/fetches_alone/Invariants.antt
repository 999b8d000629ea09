use Rattle.std.proofs.Common.{ℕ, ◌<◌}
use Rattle.plan.specs.View.{plan_of}
use Rattle.plan.specs.Certificate.Certificate.{certificate_of}
use Rattle.shares.specs.Owned.{IsLeftAlone}
use Rattle.shares.proofs.own.fetches_alone.Given as goal

abbrev pub invariant-loop-piece : goal.invariant-loop-piece
invariant-loop-piece l = (i : ℕ) → i < l.piece → ¬ IsLeftAlone (plan_of l.layout.plan.now) (certificate_of l.layout.cert.now) l.group i
