use Rattle.std.proofs.Common.{take, All}
use Rattle.tree.specs.Term.{list_terms}
use Rattle.algo.proofs.update.first_fault.Given as goal

abbrev pub invariant-loop-index : goal.invariant-loop-index
invariant-loop-index g l = All (g.C.Condition.holds l.condition) (list_terms (take l.index-index l.at))
