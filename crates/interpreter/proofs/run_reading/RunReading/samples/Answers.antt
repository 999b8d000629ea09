use Rattle.std.proofs.Common.{◌≡◌, ◌∷◌, ℤ, Some, sym, ◌∙◌}
use Rattle.numeric.specs.declared.ty.Ty.{Ty}
use Rattle.tree.specs.Meaning.{typed}
use Rattle.meaning.specs.Image.View.{numbers}
use Rattle.interpreter.specs.SampleRows.{sampled}
use Rattle.interpreter.specs.Scanlines.{input_at, sample_along}
use Rattle.interpreter.proofs.FoundRuns.{if_some}
use Rattle.interpreter.proofs.run_reading.RunReading.samples.Goals as goal

pub returns : goal.returns
returns c =
    let piece = c.args.self.now.piece.now in
    let others = c.args.others.now in
    let extents : c.as_slice.result.now ≡ piece.plan.now.input.extents.items = c.as_slice.ensures.value ∙ piece.same in
    let samples : sampled c.all_samples.result ≡ numbers piece.image.now.samples = c.all_samples.ensures in
    if_some c.samples_beside.result
    (λ row. (t : Ty) (z n : ℤ) → sample_along (sampled row) z ≡ Some n → input_at t c.as_slice.result.now (sampled c.all_samples.result) (z ∷ others) ≡ Some (typed t n)) _
    (λ row f z n e. (λ i. input_at piece.plan.now.input.ty (sym extents i) (sym samples i) (z ∷ others)) ∙ f piece.plan.now.input.ty z n e)
    c.samples_beside.ensures
