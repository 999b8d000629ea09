use Rattle.std.proofs.Common.{◌≡◌, ◌++◌, ◌∷◌, drop}
use Rattle.blocks.proofs.blocks.with_limits.Given as goal

abbrev pub invariant-loop-limit : goal.invariant-loop-limit
invariant-loop-limit l = l.upper ++ drop l.limit-index l.limits ≡ l.last ∷ l.limits
