use Rattle.std.proofs.Common.{◌≡◌, ◌∷◌, [], ◌<◌, ℕ, ℤ, List, Some, pos, ap, sym, ◌∙◌, arith, w64}
use Rattle.std.specs.Prelude.{slice_index}
use Rattle.std.proofs.lemmas.Int.{to_z-of_z}
use Rattle.numeric.specs.declared.ty.Ty.{Ty}
use Rattle.tree.specs.Meaning.{typed}
use Rattle.interpreter.specs.SampleRows.{sampled}
use Rattle.interpreter.specs.Scanlines.{input_at, pixel_along}
use Rattle.interpreter.proofs.FoundRuns.{if_some}
use Rattle.interpreter.proofs.Points.{only_three}
use Rattle.interpreter.proofs.scanlines.pixels_in.Goals as goal

pub returns-else-colours-colour : goal.returns-else-colours-colour
returns-else-colours-colour c =
    let extents = c.args.extents.now in
    let samples = sampled c.args.samples in
    let w = slice_index extents 0 in
    let h = slice_index extents 1 in
    let k = slice_index extents 2 in
    let y : ℕ = c.in_ok-row-in-len3.row in
    let x : ℕ = c.in_ok-colour-in-len3.colour in
    let is : extents ≡ w ∷ h ∷ k ∷ [] = only_three extents 0 (omega (arith, c.in-len3.len_at_least)) (omega (arith, c.in-len3.len_below)) in
    let row : c.args.row ≡ pos y = sym (to_z-of_z w64 c.args.row c.ranges.row) ∙ c.in_ok-row-in-len3.ensures in
    let colour : c.args.colour ≡ pos x = sym (to_z-of_z w64 c.args.colour c.ranges.colour) ∙ c.in_ok-colour-in-len3.ensures in
    let lt : y < h = omega arith in
    if_some c.pixels_among.result
    (λ p. (t : Ty) (e : ℕ) (z n : ℤ) → y < e → pixel_along p.colours p.colour (sampled p.samples) z ≡ Some n → input_at t (w ∷ e ∷ k ∷ []) samples (z ∷ pos y ∷ pos x ∷ []) ≡ Some (typed t n)) _
    (λ p f t z n g.
    ap (λ (es : List ℕ). input_at t es samples (z ∷ c.args.row ∷ c.args.colour ∷ [])) is
    ∙ (λ i. input_at t (w ∷ h ∷ k ∷ []) samples (z ∷ row i ∷ colour i ∷ [])) ∙ f t h z n lt g)
    c.pixels_among.ensures
