use Rattle.std.proofs.Common.{◌≡◌, ◌+◌}
use Rattle.tree.specs.Term.{indices, list_terms}
use Rattle.interpreter.specs.Evaluation.Indices.{indices_in_all}
use Rattle.interpreter.proofs.Indices.{left}
use Rattle.interpreter.proofs.evaluation.indices.+indices_after.Given as goal

abbrev pub invariant-indices_after_all-loop-expr : goal.invariant-indices_after_all-loop-expr
invariant-indices_after_all-loop-expr l = l.count + left l.all l.expr-index ≡ l.before + indices_in_all (indices (list_terms l.all))
