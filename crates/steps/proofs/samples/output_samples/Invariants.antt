use Rattle.std.proofs.Common.{◌≡◌, map}
use Rattle.std.specs.List.{range_with_len}
use Rattle.algo.specs.View.{samples_of}
use Rattle.checked_plan.specs.View.{algorithm_checked}
use Rattle.meaning.specs.Image.Raster.{natural, raster_point}
use Rattle.meaning.specs.Value.{output_value}
use Rattle.steps.proofs.samples.output_samples.Given as goal

abbrev pub invariant-loop-place : goal.invariant-loop-place
invariant-loop-place l =
    let a = algorithm_checked l.job.checked.now in
    l.samples.items ≡ map (λ n. natural (output_value a (samples_of l.job.inputs.now) (raster_point a.output_extents n))) (range_with_len 0 l.place)
