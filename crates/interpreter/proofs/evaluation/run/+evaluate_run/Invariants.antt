use Rattle.std.proofs.Common.{◌≡◌, ◌<◌, ℕ, Some, length, take}
use Rattle.plan.specs.Semantics.Found.{all_found}
use Rattle.plan.specs.Semantics.Memory.{Memory}
use Rattle.tree.specs.Term.{indices, list_terms}
use Rattle.tree.specs.declared.value.Value.{Value}
use Rattle.interpreter.specs.Evaluation.Lanes.{lanes_at}
use Rattle.interpreter.proofs.evaluation.run.+evaluate_run.Given as goal

abbrev pub invariant-call_run-loop-i : goal.invariant-call_run-loop-i
invariant-call_run-loop-i g l = record {
  four : length l.lanes ≡ 4;
  found : (m : Memory Value) → g.R.RunReader.agrees l.reader m → (k : ℕ) → k < l.count →
      all_found (g.R.RunReader.variables l.reader k) (g.R.RunReader.look l.reader m) (indices (list_terms (take l.i l.at))) ≡ Some (lanes_at l.count (take l.i l.lanes) l.rest k);
}
