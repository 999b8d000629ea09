use Rattle.std.proofs.Common.{ap, ◌∙◌}
use Rattle.algo.specs.View.{algorithm_of, samples_of}
use Rattle.meaning.specs.Image.Raster.{sample_count}
use Rattle.meaning.specs.Image.View.{Frame}
use Rattle.plain.specs.Picture.{SomeAbove}
use Rattle.plain.proofs.Outputs.{passed_on}
use Rattle.plain.proofs.Rasters.{all_within, some_above}
use Rattle.plain.proofs.picture.image.Goals as goal

pub returns-in_err-samples-clause-spent : goal.returns-in_err-samples-clause-spent
returns-in_err-samples-clause-spent g c =
    let a = algorithm_of c.args.algo.now in
    let s = samples_of c.args.inputs.now in
    let places = c.sample_count.ensures ∙ ap (λ (f : Frame). sample_count f.extents) (c.in_ok-shape.ensures ∙ c.output.ensures.shape) in
    passed_on _ c.in_err-samples.field-0.0 (SomeAbove a s c.args.budget) c.from_residual-in_err-samples.ensures.1
    (λ m. some_above a c.is_well_formed.ensures s c.args.budget c.sample_count.result places (c.in_err-samples.ensures m))

pub returns-clause-within : goal.returns-clause-within
returns-clause-within g c =
    let a = algorithm_of c.args.algo.now in
    let s = samples_of c.args.inputs.now in
    let places = c.sample_count.ensures ∙ ap (λ (f : Frame). sample_count f.extents) (c.in_ok-shape.ensures ∙ c.output.ensures.shape) in
    all_within a c.is_well_formed.ensures s c.args.budget c.sample_count.result places c.in_ok-samples.ensures.1
