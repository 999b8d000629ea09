use Rattle.std.proofs.Common.{◌≡◌, ◌∷◌, [], ℤ, List, Some, ap, sym, ◌∙◌, arith, rules, w64, to_z, of_z, SFits, slice_index_or, pos}
use Rattle.std.proofs.lemmas.Int.{to_z-of_z}
use Rattle.numeric.specs.declared.ty.Ty.{Ty}
use Rattle.tree.specs.Meaning.{typed}
use Rattle.interpreter.specs.SampleRows.{sampled}
use Rattle.interpreter.specs.Scanlines.{input_at, pixel_along}
use Rattle.interpreter.proofs.FoundRuns.{if_some}
use Rattle.interpreter.proofs.Windows.{only_two}
use Rattle.interpreter.proofs.scanlines.pixels_beside.Goals as goal

pub returns-in-len2 : goal.returns-in-len2
returns-in-len2 c =
    let extents = c.args.extents.now in
    let samples = sampled c.args.samples in
    let y : ℤ = slice_index_or c.args.others.now 0 (pos 0) in
    let z : ℤ = slice_index_or c.args.others.now 1 (pos 0) in
    let y_fits : SFits w64 y = search rules in
    let z_fits : SFits w64 z = search rules in
    let is : c.args.others.now ≡ y ∷ z ∷ [] = only_two c.args.others.now (pos 0) (omega (arith, c.in-len2.len_at_least)) (omega (arith, c.in-len2.len_below)) in
    if_some c.pixels_in.result
    (λ row. (t : Ty) (x n : ℤ) → pixel_along row.colours row.colour (sampled row.samples) x ≡ Some n → input_at t extents samples (x ∷ to_z w64 (of_z w64 y) ∷ to_z w64 (of_z w64 z) ∷ []) ≡ Some (typed t n)) _
    (λ row f t x n e. ap (λ (p : List ℤ). input_at t extents samples (x ∷ p)) (is ∙ (λ i. sym (to_z-of_z w64 y y_fits) i ∷ sym (to_z-of_z w64 z z_fits) i ∷ [])) ∙ f t x n e)
    c.pixels_in.ensures
