use Rattle.std.proofs.Common.{◌≡◌, ◌++◌, [], ◌∷◌, drop}
use Rattle.sched.specs.Standing.{cuts_of}
use Rattle.sched.proofs.nest.cuts_of.Given as goal

abbrev pub invariant-loop-cut : goal.invariant-loop-cut
invariant-loop-cut l = l.found.items ++ cuts_of (drop l.cut-index l.cuts) l.names.items ≡ cuts_of l.cuts (l.variable ∷ [])
