use Rattle.std.proofs.Common.{◌≡◌, ◌/◌, ◌%◌, ◌<◌, ◌^◌, [], ◌∷◌, get_or, pos, sym, ◌∙◌, subst}
use Rattle.std.proofs.lemmas.Int.{to_z_pos}
use Rattle.meaning.specs.Image.Raster.{is_within}
use Rattle.meaning.specs.Image.View.{AreExtents}
use Rattle.steps.proofs.Outputs.{few_places, quotient_few, remainder_few, third}
use Rattle.steps.proofs.samples.sample_at.Goals as goal
use mir.Syntax.{w64}
use mir.Val.{to_z}

pub value_at-requires-in-len3-clause-within : goal.value_at-requires-in-len3-clause-within
value_at-requires-in-len3-clause-within c =
    let y = c.args.job.now.checked.now in
    let es = c.args.extents.now in
    let n = c.args.place in
    let h : AreExtents es = subst AreExtents (sym c.requires.extents) y.algo.now.well_formed.output_extents in
    let few : n < 2 ^ 63 = few_places es n h c.requires.place in
    let pixel = n / get_or es 2 0 in
    let width = get_or es 0 0 in
    let colours = get_or es 2 0 in
    let fits = quotient_few n colours few in
    let x : to_z w64 (pixel % width) ≡ pos (pixel % width) = to_z_pos w64 (pixel % width) (remainder_few pixel width fits) in
    let r : to_z w64 (pixel / width) ≡ pos (pixel / width) = to_z_pos w64 (pixel / width) (quotient_few pixel width fits) in
    let k : to_z w64 (n % colours) ≡ pos (n % colours) = to_z_pos w64 (n % colours) (remainder_few n colours few) in
    (λ j. is_within (sym c.requires.extents j) (x j ∷ r j ∷ k j ∷ [])) ∙ third es n h c.in-len3.len_at_least c.requires.place
