use Rattle.std.proofs.Common.{◌≡◌, ℕ, [], ◌∷◌, ◌++◌, sym, ap, ◌∙◌, arith}
use Rattle.std.proofs.lemmas.List.FromFn.{map-range_with_len_more}
use Rattle.algo.specs.View.{samples_of}
use Rattle.checked_plan.specs.View.{algorithm_checked}
use Rattle.meaning.specs.Image.Raster.{natural, raster_point}
use Rattle.meaning.specs.Image.View.{Frame}
use Rattle.meaning.specs.Algorithm.{Algorithm}
use Rattle.meaning.specs.Value.{output_value}
use Rattle.steps.proofs.samples.output_samples.Goals as goal

pub loop-place-preserved : goal.loop-place-preserved
loop-place-preserved c =
    let a = algorithm_checked c.args.job.now.checked.now in
    let place = c.loop-place.place in
    let f : ℕ → ℕ = λ n. natural (output_value a (samples_of c.args.job.now.inputs.now) (raster_point a.output_extents n)) in
    let extents = c.as_slice.ensures.value ∙ ap (λ (v : Frame). v.extents) c.output.ensures.shape ∙ ap (λ (b : Algorithm). b.output_extents) c.algo.ensures in
    let sample : c.sample_at.result ≡ f place = c.sample_at.ensures ∙ ap (λ es. natural (output_value a (samples_of c.args.job.now.inputs.now) (raster_point es place))) extents in
    c.in_ok-push.ensures.items
    ∙ (λ j. c.loop-place.invariant j ++ sample j ∷ [])
    ∙ sym (map-range_with_len_more f 0 place place (omega arith))
