use Rattle.std.proofs.Common.{◌<◌, ℕ, List, subst}
use Rattle.interpreter.specs.PlaceNumbers.{OperationStands}
use Rattle.interpreter.specs.declared.evaluation.lanes.Number.{Number}
use Rattle.interpreter.proofs.FoundRuns.{if_some}
use Rattle.interpreter.proofs.placing.place_update.Goals as goal

pub returns : goal.returns
returns c =
    let t = c.args.target in
    let O : List Number → ℕ → Type 0 = λ zs k. OperationStands c.args.memory.now t.buffer t.count t.position c.args.update.operation zs c.place_operation.new.left c.place_operation.new.right k in
    if_some c.place_operation.result (λ _. (k : ℕ) → k < t.count → O c.registers_behind-values.result.now k) _
    (λ _ h k lt. record {
      point = c.in_ok-place_columns.ensures t.buffer c.requires.first k lt;
      operation = subst (λ (zs : List Number). O zs k) c.registers_behind-values.ensures (h k lt);
    })
    c.place_operation.ensures
