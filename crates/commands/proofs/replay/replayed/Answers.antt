use Rattle.std.proofs.Common.{◌<◌, All, inr, subst, sym}
use Rattle.std.proofs.lemmas.Result.{err_from_is_err_and}
use Rattle.meaning.specs.Algorithm.{Algorithm}
use Rattle.algo.specs.View.{samples_of}
use Rattle.commands.proofs.Kept.{on_ok, same_then}
use Rattle.commands.proofs.Sourced.{of_order, order_before}
use Rattle.commands.proofs.Ways.{told}
use Rattle.commands.specs.Sources.{IsImageFile}
use Rattle.commands.proofs.replay.replayed.Goals as goal

pub returns-in_err-order-clause-same : goal.returns-in_err-order-clause-same
returns-in_err-order-clause-same g c = same_then _ _ _ c.image_file.ensures.same c.order_file.ensures.same

pub returns-in_err-order-clause-refused : goal.returns-in_err-order-clause-refused
returns-in_err-order-clause-refused g c =
    let samples = samples_of c.in_ok-inputs.inputs in
    let Reads : Algorithm → Type 0 = λ x. IsImageFile (g.F.Files.contents c.args.files.now) c.args.request.now.input.now x samples in
    let e = c.in_err-order.field-0.0 in
    let p = err_from_is_err_and c.from_residual-in_err-order.result c.from_residual-in_err-order.ensures.1 in
    told _ c.from_residual-in_err-order.result p.0 e p.1 p.2
    (inr ((samples, subst Reads c.algo.ensures c.in_ok-inputs.ensures.read), order_before _ _ _ e c.image_file.ensures.same c.in_err-order.ensures.refused))

pub returns-in_err-state-clause-same : goal.returns-in_err-state-clause-same
returns-in_err-state-clause-same g c = same_then _ _ _ c.image_file.ensures.same c.order_file.ensures.same

pub returns-clause-same : goal.returns-clause-same
returns-clause-same g c = same_then _ _ _ c.image_file.ensures.same c.order_file.ensures.same

pub returns-clause-done : goal.returns-clause-done
returns-clause-done g c =
    let samples = samples_of c.in_ok-inputs.inputs in
    let Reads : Algorithm → Type 0 = λ x. IsImageFile (g.F.Files.contents c.args.files.now) c.args.request.now.input.now x samples in
    on_ok _ c.tell.result ((samples, subst Reads c.algo.ensures c.in_ok-inputs.ensures.read), of_order _ _ _ c.in_ok-order.order.items c.image_file.ensures.same c.in_ok-order.ensures.order)

pub replay-requires-clause-workers : goal.replay-requires-clause-workers
replay-requires-clause-workers g c = subst (λ workers. All (λ worker. worker < 64) workers) (sym c.as_slice.ensures.value) c.in_ok-order.ensures.order.2.known
