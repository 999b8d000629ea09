use Rattle.std.proofs.Common.{◌≡◌, ◌++◌, drop}
use Rattle.sched.proofs.nest.copied.Given as goal

abbrev pub invariant-loop-one : goal.invariant-loop-one
invariant-loop-one l = l.copies.items ++ drop l.one-index l.known ≡ l.known
