use Rattle.subst.proofs.Indices.{Misses}
use Rattle.subst.proofs.filling.index_or_variable.Given as goal

abbrev pub invariant-loop-k : goal.invariant-loop-k
invariant-loop-k l = Misses l.names l.name l.k
