use Rattle.std.proofs.Common.{◌∙◌}
use Rattle.algo.specs.Parts.{names_of}
use Rattle.algo.specs.View.{algorithm_of}
use Rattle.crop.specs.Inference.Needed.{update_regions}
use Rattle.crop.proofs.OfInference.Updates.{one_update}
use Rattle.crop.proofs.inference.definitions.with_function.Goals as goal

pub loop-update-preserved : goal.loop-update-preserved
loop-update-preserved c =
    let defined = c.function_at.result.1.now in
    one_update c.args.sought.now.scope.now (update_regions c.args.sought.now.scope.now c.args.sought.now.inner.now (algorithm_of c.args.algo.now) c.args.function c.args.sought.now.callee.now c.args.region.now (names_of defined.variables.items))
    defined.updates.items c.deref-update-items.result.now c.loop-update.update-index c.update-item.result c.loop-update.found c.in_ok-found-2.found
    c.deref-update-items.ensures.value c.loop-update-test.true c.update-item.is c.in_ok-found-2.ensures
    ∙ c.loop-update.invariant
