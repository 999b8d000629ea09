use Rattle.std.proofs.Common.{◌≡◌, ◌∷◌, ◌<◌, ℕ, ℤ, List, Some, pos, sym, ap, ◌∙◌, w64, to_z, of_z}
use Rattle.std.specs.Prelude.{◌+ℤ◌}
use Rattle.std.proofs.lemmas.Int.{to_z-of_z}
use Rattle.tree.specs.Meaning.{typed}
use Rattle.interpreter.specs.Buffers.Blocks.{memory_of}
use Rattle.interpreter.specs.Evaluation.Lanes.{found_as}
use Rattle.interpreter.specs.Evaluation.Lending.{lent}
use Rattle.interpreter.specs.Evaluation.Words.{word_at}
use Rattle.interpreter.specs.RunReadings.{source_at}
use Rattle.interpreter.specs.declared.run_reading.Source.{Source}
use Rattle.interpreter.specs.declared.run_reading.Source.TheVariants.{Input, Buffer}
use Rattle.interpreter.proofs.Aside.{aside_same}
use Rattle.interpreter.proofs.FoundRuns.{if_some}
use Rattle.interpreter.proofs.run_reading.RunReadingRunReader.lend_row.Goals as goal

pub returns-in-Input-clause-value : goal.returns-in-Input-clause-value
returns-in-Input-clause-value c =
    let r = c.args.self.now in
    let held = memory_of r.memory.now in
    let others = c.args.others.now in
    let first : ℤ = to_z w64 (of_z w64 c.args.first) in
    let s : Source = Input in
    let means = c.in_ok-source.ensures in
    if_some c.lend_sample_row.result
    (λ row. (k : ℕ) → k < c.args.count → found_as c.args.cast (source_at r held s ((first +ℤ pos k) ∷ others)) ≡ Some (typed row.ty (word_at row.ty (lent row.numbers) k))) _
    (λ row h m ok k lt.
    let p : List ℤ = (c.args.first +ℤ pos k) ∷ others in
    ap (found_as c.args.cast) (means.look m p ∙ aside_same r held m c.in_ok-source.source p means.aside ok ∙ ap (λ (x : Source). source_at r held x p) c.in-Input.is
    ∙ ap (λ (z : ℤ). source_at r held s ((z +ℤ pos k) ∷ others)) (sym (to_z-of_z w64 c.args.first c.ranges.first))) ∙ h k lt)
    c.lend_sample_row.ensures.value

pub returns-in-Buffer-clause-value : goal.returns-in-Buffer-clause-value
returns-in-Buffer-clause-value c =
    let r = c.args.self.now in
    let held = memory_of r.memory.now in
    let others = c.args.others.now in
    let first : ℤ = to_z w64 (of_z w64 c.args.first) in
    let s : Source = Buffer c.in-Buffer.buffer in
    let means = c.in_ok-source.ensures in
    if_some c.lend_place_row.result
    (λ row. (k : ℕ) → k < c.args.count → found_as c.args.cast (source_at r held s ((first +ℤ pos k) ∷ others)) ≡ Some (typed row.ty (word_at row.ty (lent row.numbers) k))) _
    (λ row h m ok k lt.
    let p : List ℤ = (c.args.first +ℤ pos k) ∷ others in
    ap (found_as c.args.cast) (means.look m p ∙ aside_same r held m c.in_ok-source.source p means.aside ok ∙ ap (λ (x : Source). source_at r held x p) c.in-Buffer.is
    ∙ ap (λ (z : ℤ). source_at r held s ((z +ℤ pos k) ∷ others)) (sym (to_z-of_z w64 c.args.first c.ranges.first))) ∙ h k lt)
    c.lend_place_row.ensures.value
