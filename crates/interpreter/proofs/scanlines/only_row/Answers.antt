use Rattle.std.proofs.Common.{◌≡◌, ◌∷◌, [], ℕ, List, Some, take, drop, ap, subst, ◌∙◌, arith}
use Rattle.std.specs.Prelude.{slice_index}
use Rattle.interpreter.specs.SampleRows.{sampled}
use Rattle.interpreter.specs.Scanlines.{input_at, sample_along}
use Rattle.interpreter.proofs.FoundRuns.{if_some}
use Rattle.interpreter.proofs.Windows.{first_row, only_one}
use Rattle.interpreter.proofs.scanlines.only_row.Goals as goal

pub returns-in-len1 : goal.returns-in-len1
returns-in-len1 c =
    let extents = c.args.extents.now in
    let samples = sampled c.args.samples in
    let w = slice_index extents 0 in
    let is : extents ≡ w ∷ [] = only_one extents 0 (omega (arith, c.in-len1.len_at_least)) (omega (arith, c.in-len1.len_below)) in
    if_some c.samples_among.result (λ row. sampled row ≡ take w (drop 0 samples)) _
    (λ row same t z n h. ap (λ (e : List ℕ). input_at t e samples (z ∷ [])) is ∙ first_row t w samples z n (subst (λ (r : List ℕ). sample_along r z ≡ Some n) same h))
    c.samples_among.ensures.same
