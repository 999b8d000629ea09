use Rattle.std.proofs.Common.{take, All}
use Rattle.numeric.specs.declared.ty.Ty.TheVariants.{I32}
use Rattle.tree.specs.Term.{list_terms}
use Rattle.algo.specs.Context.{HasType}
use Rattle.algo.proofs.update.indices.Given as goal

abbrev pub invariant-loop-index : goal.invariant-loop-index
invariant-loop-index l = All (HasType l.scope.variables.now l.scope.functions.now l.scope.input.now I32) (list_terms (take l.index-index l.at))
