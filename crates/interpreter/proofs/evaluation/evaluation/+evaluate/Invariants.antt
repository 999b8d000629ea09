use Rattle.std.proofs.Common.{◌+◌, ◌≤◌, length, take}
use Rattle.plan.specs.Semantics.Found.{all_found}
use Rattle.tree.specs.Term.{indices, list_terms}
use Rattle.interpreter.proofs.Indices.{left, Behind}
use Rattle.interpreter.proofs.evaluation.evaluation.+evaluate.Given as goal

abbrev pub invariant-numbers-loop-index : goal.invariant-numbers-loop-index
invariant-numbers-loop-index g l = record {
  room : length l.stack.items + left l.at l.index-index ≤ l.stack.room;
  behind : Behind l.initial.stack l.stack (all_found (g.R.Reader.variables l.reader) (g.R.Reader.look l.reader) (indices (list_terms (take l.index-index l.at))));
}
