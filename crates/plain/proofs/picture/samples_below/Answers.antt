use Rattle.std.proofs.Common.{◌≡◌, ◌-◌, ◌<◌, List, ℕ, ◌∙◌, subst, ap, arith}
use Rattle.std.specs.List.{range_with_len, AllZip}
use Rattle.algo.specs.View.{algorithm_of, samples_of}
use Rattle.meaning.specs.Image.Raster.{sample_count}
use Rattle.rayon.specs.Numbers.{nat_range}
use Rattle.rayon.proofs.ToStd.{nat_range-All}
use Rattle.plain.specs.Picture.{Gives, Part, sample_at, count_at}
use Rattle.plain.proofs.Joining.{whole_of, parts_of}
use Rattle.plain.proofs.picture.samples_below.Goals as goal

pub reduce-requires-clause-ready : goal.reduce-requires-clause-ready
reduce-requires-clause-ready g c κs within =
    let ends = c.into_par_iter.ensures in
    let places = c.requires in
    let a = algorithm_of c.args.output.now.algo.now in
    let inside = nat_range-All (λ i. i < sample_count a.output_extents) 0 c.args.places (λ i low high. omega (arith, places, high)) in
    rw (c.fold.ensures.base, c.fold.ensures.op, c.with_min_len.ensures.base, ends.0, ends.1) (tt, (λ k d lt u. inside k d lt), λ u. tt)

pub returns : goal.returns
returns g c =
    let done = c.reduce.ensures in
    let gives = done.1 in
    let a = algorithm_of c.args.output.now.algo.now in
    let s = samples_of c.args.output.now.inputs.now in
    let M : List ℕ → Part → Type 0 = Gives (sample_at a s) (count_at a s) c.args.output.now.budget in
    let ends = c.into_par_iter.ensures in
    let whole : c.args.places - 0 ≡ c.args.places = omega arith in
    let places = rw (c.fold.ensures.base, c.with_min_len.ensures.base) at gives.1 in
    let list = places ∙ (λ i. nat_range (ends.0 i) (ends.1 i)) ∙ ap (range_with_len 0) whole in
    let steps = rw c.fold.ensures.op at gives.2 in
    let each : AllZip M gives.0 done.0 = parts_of M _ _ (λ r h. h (sample_at a s) (count_at a s) c.args.output.now.budget) (λ xs b x r h step. step xs h) gives.0 done.0 steps in
    subst (λ l. M l c.reduce.result) list (whole_of M _ _ (λ r h. h (sample_at a s) (count_at a s) c.args.output.now.budget) (λ xs ys b d r h k step. step (sample_at a s) (count_at a s) c.args.output.now.budget xs ys h k) done.0 c.reduce.result gives.0 done.2 each)
