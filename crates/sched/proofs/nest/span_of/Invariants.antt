use Rattle.std.proofs.Common.{◌≡◌, ◌++◌, ◌∷◌, drop}
use Rattle.lin.specs.Forms.{number}
use Rattle.sched.proofs.nest.span_of.Given as goal

abbrev pub invariant-loop-limit : goal.invariant-loop-limit
invariant-loop-limit l = l.upper ++ drop l.limit-index l.limits ≡ number l.last ∷ l.limits
