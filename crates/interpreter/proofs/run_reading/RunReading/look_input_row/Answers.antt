use Rattle.std.proofs.Common.{◌≡◌, ◌∷◌, ◌<◌, ℕ, ℤ, Some, length, pos, ap, sym, ◌∙◌, w64}
use Rattle.std.specs.Prelude.{◌+ℤ◌}
use Rattle.std.proofs.lemmas.Int.{to_z-of_z}
use Rattle.tree.specs.declared.value.Value.{Value}
use Rattle.tree.specs.Meaning.{typed}
use Rattle.interpreter.specs.Buffers.Blocks.{memory_of}
use Rattle.interpreter.specs.Evaluation.Lanes.{taken_as}
use Rattle.interpreter.specs.Evaluation.Words.{bits_at, word_at}
use Rattle.interpreter.specs.RunReadings.{source_at}
use Rattle.interpreter.specs.declared.run_reading.Source.TheVariants.{Input}
use Rattle.interpreter.proofs.Casts.{found_taken}
use Rattle.interpreter.proofs.FoundRuns.{if_some}
use Rattle.interpreter.proofs.run_reading.RunReading.look_input_row.Goals as goal

pub returns : goal.returns
returns c =
    let r = c.args.self.now in
    let others = c.args.others.now in
    let out = c.put_input_row.new.out in
    let ty = r.piece.now.plan.now.input.ty in
    let first = sym (to_z-of_z w64 c.args.first c.ranges.first) in
    if_some c.sample_type.result (λ t. (k : ℕ) → k < length out → typed t (word_at t out k) ≡ taken_as c.args.cast (typed ty (pos (bits_at out k)))) _
    (λ t h k lt.
    found_taken c.args.cast _ _ (ap (λ (z : ℤ). source_at r (memory_of r.memory.now) Input ((z +ℤ pos k) ∷ others)) first ∙ c.in_ok-most.ensures.there k lt)
    ∙ ap (λ (v : Value). Some v) (sym (h k lt)))
    c.sample_type.ensures
