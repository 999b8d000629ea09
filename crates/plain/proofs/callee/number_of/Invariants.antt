use Rattle.algo.specs.View.{algorithm_of}
use Rattle.plain.specs.Scopes.{NoneBefore}
use Rattle.plain.proofs.callee.number_of.Given as goal

abbrev pub invariant-loop-number : goal.invariant-loop-number
invariant-loop-number l = NoneBefore (algorithm_of l.algo) l.number l.name
