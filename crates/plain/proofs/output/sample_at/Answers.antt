use Rattle.std.proofs.Common.{◌≡◌, ◌/◌, ◌%◌, [], ◌∷◌, get_or, pos, sym, ◌∙◌, subst, rules}
use Rattle.std.proofs.lemmas.Int.{to_z-of_z}
use Rattle.meaning.specs.Image.Raster.{is_within}
use Rattle.meaning.specs.Image.View.{AreExtents}
use Rattle.plain.proofs.Outputs.{third}
use Rattle.plain.proofs.output.sample_at.Goals as goal
use mir.Syntax.{w32}
use mir.Val.{to_z, of_z, SFits}

pub sample_of-requires-in-len3 : goal.sample_of-requires-in-len3
sample_of-requires-in-len3 c =
    let es = c.args.extents.now in
    let n = c.args.place in
    let h : AreExtents es = subst AreExtents (sym c.requires.extents) c.args.output.now.algo.now.well_formed.output_extents in
    let colours = get_or es 2 0 in
    let width = get_or es 0 0 in
    let fits-x : SFits w32 c.coordinate-in-len3.result = search rules in
    let fits-y : SFits w32 c.coordinate-in-len3-2.result = search rules in
    let fits-z : SFits w32 c.coordinate-in-len3-3.result = search rules in
    let x : to_z w32 (of_z w32 c.coordinate-in-len3.result) ≡ pos (n / colours % width) = to_z-of_z w32 c.coordinate-in-len3.result fits-x ∙ c.coordinate-in-len3.ensures in
    let y : to_z w32 (of_z w32 c.coordinate-in-len3-2.result) ≡ pos (n / colours / width) = to_z-of_z w32 c.coordinate-in-len3-2.result fits-y ∙ c.coordinate-in-len3-2.ensures in
    let z : to_z w32 (of_z w32 c.coordinate-in-len3-3.result) ≡ pos (n % colours) = to_z-of_z w32 c.coordinate-in-len3-3.result fits-z ∙ c.coordinate-in-len3-3.ensures in
    (λ j. is_within (sym c.requires.extents j) (x j ∷ y j ∷ z j ∷ [])) ∙ third es n h c.in-len3.len_at_least c.requires.place
