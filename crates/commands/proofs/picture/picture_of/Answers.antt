use Rattle.std.proofs.Common.{ap, inl, inr}
use Rattle.std.proofs.lemmas.Result.{IfErr-weaker, err_from_is_err_and}
use Rattle.algo.specs.View.{algorithm_of, samples_of}
use Rattle.commands.proofs.Kept.{same_then}
use Rattle.commands.proofs.Prepared.{ready_by, stopped_by}
use Rattle.commands.proofs.Sourced.{image_before, no_image_before, written_by}
use Rattle.commands.proofs.Ways.{told}
use Rattle.commands.proofs.picture.picture_of.Goals as goal

pub returns-in_err-means-clause-refused : goal.returns-in_err-means-clause-refused
returns-in_err-means-clause-refused g c =
    let e = c.in_err-means.field-0.0 in
    let p = err_from_is_err_and c.from_residual.result c.from_residual.ensures.1 in
    told _ c.from_residual.result p.0 e p.1 p.2 (inl c.in_err-means.ensures.refused)

pub returns-in_err-inputs-clause-same : goal.returns-in_err-inputs-clause-same
returns-in_err-inputs-clause-same g c =
    same_then _ _ _ c.means_of.ensures.same c.image_file.ensures.same

pub returns-in_err-inputs-clause-refused : goal.returns-in_err-inputs-clause-refused
returns-in_err-inputs-clause-refused g c =
    let e = c.in_err-inputs.field-0.0 in
    let p = err_from_is_err_and c.from_residual-in_err-inputs.result c.from_residual-in_err-inputs.ensures.1 in
    told _ c.from_residual-in_err-inputs.result p.0 e p.1 p.2 (inr (inl (
      ready_by _ _ _ _ (ap algorithm_of c.in_ok-means.ensures.algo) c.in_ok-means.ensures.means,
      no_image_before _ _ _ (algorithm_of c.args.algo.now) e c.means_of.ensures.same c.in_err-inputs.ensures.refused,
    )))

pub returns-clause-same : goal.returns-clause-same
returns-clause-same g c =
    same_then _ _ _ c.means_of.ensures.same c.image_file.ensures.same

pub returns-clause-made : goal.returns-clause-made
returns-clause-made g c =
    let image = image_before _ _ _ (algorithm_of c.args.algo.now) (samples_of c.in_ok-inputs.inputs) c.means_of.ensures.same c.in_ok-inputs.ensures.read in
    written_by _ _ c.in_ok-means.means _ (samples_of c.in_ok-inputs.inputs) c.in_ok-means.ensures.algo c.in_ok-means.ensures.means image
    c.picture_file.result c.picture_file.ensures.afforded c.picture_file.ensures.written

pub returns-clause-refused : goal.returns-clause-refused
returns-clause-refused g c =
    let image = image_before _ _ _ (algorithm_of c.args.algo.now) (samples_of c.in_ok-inputs.inputs) c.means_of.ensures.same c.in_ok-inputs.ensures.read in
    IfErr-weaker c.picture_file.result _ _
    (λ fault h. inr (inr (samples_of c.in_ok-inputs.inputs, image, stopped_by _ _ _ _ _ fault (ap algorithm_of c.in_ok-means.ensures.algo) c.in_ok-means.ensures.means h)))
    c.picture_file.ensures.refused
