use Rattle.std.proofs.Common.{◌≡◌, ◌∷◌, [], ℕ, ℤ, List, Some, ap, sym, ◌∙◌, arith, w64, to_z, of_z}
use Rattle.std.specs.Prelude.{slice_index}
use Rattle.std.proofs.lemmas.Int.{to_z-of_z}
use Rattle.numeric.specs.declared.ty.Ty.{Ty}
use Rattle.tree.specs.Meaning.{typed}
use Rattle.interpreter.specs.SampleRows.{sampled}
use Rattle.interpreter.specs.Scanlines.{input_at, sample_along}
use Rattle.interpreter.proofs.FoundRuns.{if_some}
use Rattle.interpreter.proofs.Windows.{only_two}
use Rattle.interpreter.proofs.scanlines.later_row.Goals as goal

pub returns-in-len2 : goal.returns-in-len2
returns-in-len2 c =
    let extents = c.args.extents.now in
    let samples = sampled c.args.samples in
    let w = slice_index extents 0 in
    let h = slice_index extents 1 in
    let y : ℤ = to_z w64 (of_z w64 c.args.row) in
    let is : extents ≡ w ∷ h ∷ [] = only_two extents 0 (omega (arith, c.in-len2.len_at_least)) (omega (arith, c.in-len2.len_below)) in
    if_some c.row_among.result
    (λ row. (t : Ty) (z n : ℤ) → sample_along (sampled row) z ≡ Some n → input_at t (w ∷ h ∷ []) samples (z ∷ y ∷ []) ≡ Some (typed t n)) _
    (λ row f t z n e. ap (λ (es : List ℕ). input_at t es samples (z ∷ c.args.row ∷ [])) is ∙ ap (λ (x : ℤ). input_at t (w ∷ h ∷ []) samples (z ∷ x ∷ [])) (sym (to_z-of_z w64 c.args.row c.ranges.row)) ∙ f t z n e)
    c.row_among.ensures
