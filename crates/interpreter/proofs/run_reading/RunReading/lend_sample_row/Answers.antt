use Rattle.std.proofs.Common.{◌≡◌, ◌∷◌, ◌+◌, ℕ, ℤ, List, Option, Some, pos, ap, sym, ◌∙◌, arith, w64}
use Rattle.std.specs.Prelude.{◌+ℤ◌, slice_index}
use Rattle.std.proofs.lemmas.Int.{ints, to_z-of_z}
use Rattle.numeric.specs.declared.ty.Ty.{Ty}
use Rattle.numeric.specs.Wrap.{wrap}
use Rattle.tree.specs.Meaning.{typed}
use Rattle.interpreter.specs.Buffers.Blocks.{memory_of}
use Rattle.interpreter.specs.Evaluation.Lanes.{found_as}
use Rattle.interpreter.specs.RunReadings.{source_at}
use Rattle.interpreter.specs.SampleRows.{sampled}
use Rattle.interpreter.specs.Scanlines.{sample_along}
use Rattle.interpreter.specs.declared.run_reading.Source.TheVariants.{Input}
use Rattle.interpreter.proofs.Casts.{found_taken}
use Rattle.interpreter.proofs.Windows.{sample_row}
use Rattle.interpreter.proofs.run_reading.RunReading.lend_sample_row.Goals as goal

pub returns-clause-value : goal.returns-clause-value
returns-clause-value c = λ k lt.
    let r = c.args.self.now in
    let first : ℤ = c.args.first in
    let start : ℕ = c.in_ok-start.start in
    let ty = c.in_ok-ty.ty in
    let own = r.piece.now.plan.now.input.ty in
    let samples : List ℕ = sampled c.in_ok-samples.samples in
    let row : List ℕ = sampled c.in_ok-row.row in
    let n : ℕ = slice_index row k in
    let is : first ≡ pos 0 +ℤ pos start = sym (to_z-of_z w64 first c.ranges.first) ∙ c.in_ok-start.ensures in
    let place : first +ℤ pos k ≡ pos (start + k) = omega (arith, ints, is) in
    let there : sample_along samples (pos (start + k)) ≡ Some (pos n) = sample_row samples row start c.args.count k c.in_ok-row.ensures.same c.in_ok-row.ensures.count lt in
    ap (λ (o : Option Ty). found_as o (source_at r (memory_of r.memory.now) Input ((first +ℤ pos k) ∷ c.args.others.now))) c.in_ok-ty.ensures
    ∙ found_taken (Some ty) _ (typed own (pos n)) (c.in_ok-samples.ensures (first +ℤ pos k) (pos n) (ap (sample_along samples) place ∙ there))
    ∙ ap (λ (l : List ℕ). Some (typed ty (wrap ty (pos (slice_index l k))))) (sym c.in_ok-bytes.ensures)
