use Rattle.std.proofs.Common.{◌≡◌, ◌∷◌, [], ℤ, List, Some, ap, sym, ◌∙◌, arith, rules, w64, to_z, of_z, SFits, slice_index_or, pos}
use Rattle.std.proofs.lemmas.Int.{to_z-of_z}
use Rattle.numeric.specs.declared.ty.Ty.{Ty}
use Rattle.tree.specs.Meaning.{typed}
use Rattle.interpreter.specs.SampleRows.{sampled}
use Rattle.interpreter.specs.Scanlines.{input_at, sample_along}
use Rattle.interpreter.proofs.FoundRuns.{if_some}
use Rattle.interpreter.proofs.Windows.{no_items, only_one}
use Rattle.interpreter.proofs.scanlines.samples_beside.Goals as goal

pub returns-in-empty : goal.returns-in-empty
returns-in-empty c =
    let extents = c.args.extents.now in
    let samples = sampled c.args.samples in
    let none : c.args.others.now ≡ [] = no_items c.args.others.now (omega (arith, c.in-empty.len_below)) in
    if_some c.only_row.result (λ row. (t : Ty) (z n : ℤ) → sample_along (sampled row) z ≡ Some n → input_at t extents samples (z ∷ []) ≡ Some (typed t n)) _
    (λ row f t z n e. ap (λ (p : List ℤ). input_at t extents samples (z ∷ p)) none ∙ f t z n e)
    c.only_row.ensures

pub returns-in-len1 : goal.returns-in-len1
returns-in-len1 c =
    let extents = c.args.extents.now in
    let samples = sampled c.args.samples in
    let y : ℤ = slice_index_or c.args.others.now 0 (pos 0) in
    let fits : SFits w64 y = search rules in
    let is : c.args.others.now ≡ y ∷ [] = only_one c.args.others.now (pos 0) (omega (arith, c.in-len1.len_at_least)) (omega (arith, c.in-len1.len_below)) in
    if_some c.later_row.result (λ row. (t : Ty) (z n : ℤ) → sample_along (sampled row) z ≡ Some n → input_at t extents samples (z ∷ to_z w64 (of_z w64 y) ∷ []) ≡ Some (typed t n)) _
    (λ row f t z n e. ap (λ (p : List ℤ). input_at t extents samples (z ∷ p)) (is ∙ ap (λ (x : ℤ). x ∷ []) (sym (to_z-of_z w64 y fits))) ∙ f t z n e)
    c.later_row.ensures
