use Rattle.std.proofs.Common.{◌≡◌, ◌∷◌, ◌<◌, ℕ, ℤ, Some, length, pos, subst, w64, to_z, of_z}
use Rattle.std.specs.Prelude.{◌+ℤ◌, IfSome}
use Rattle.std.proofs.lemmas.Int.{to_z-of_z}
use Rattle.tree.specs.Meaning.{typed}
use Rattle.tree.specs.declared.value.Value.{Value}
use Rattle.plan.specs.Semantics.Memory.{Memory}
use Rattle.plan.specs.Semantics.Run.{look}
use Rattle.interpreter.specs.Buffers.Blocks.{memory_of}
use Rattle.interpreter.specs.Evaluation.Lanes.{found_as}
use Rattle.interpreter.specs.Evaluation.Words.{word_at}
use Rattle.interpreter.specs.Pieces.{around, no_cells}
use Rattle.interpreter.specs.Runs.{IsBut}
use Rattle.interpreter.specs.declared.run_reading.Source.TheVariants.{Input, Buffer}
use Rattle.interpreter.proofs.Aside.{finds_cast}
use Rattle.interpreter.proofs.run_reading.RunReadingRunReader.look_row.Goals as goal

pub returns-in-Input : goal.returns-in-Input
returns-in-Input c =
    let r = c.args.self.now in
    let out = c.look_input_row.new.out in
    let others = c.args.others.now in
    let first : ℤ = to_z w64 (of_z w64 c.args.first) in
    subst (λ (z : ℤ). IfSome c.look_input_row.result (λ t. (m : Memory Value) → IsBut r.buffer (memory_of r.memory.now) m → (k : ℕ) → k < length out →
    found_as c.args.cast (look (around r.piece.now no_cells) m c.args.name.now ((z +ℤ pos k) ∷ others)) ≡ Some (typed t (word_at t out k)))) (to_z-of_z w64 c.args.first c.ranges.first)
    (finds_cast r c.args.name.now c.in_ok-source.source Input (length out) (λ k. (first +ℤ pos k) ∷ others) (λ t k. word_at t out k) c.args.cast c.look_input_row.result c.in-Input.is c.in_ok-source.ensures c.look_input_row.ensures)

pub returns-in-Buffer : goal.returns-in-Buffer
returns-in-Buffer c =
    let r = c.args.self.now in
    let out = c.look_place_row.new.out in
    let others = c.args.others.now in
    let first : ℤ = to_z w64 (of_z w64 c.args.first) in
    subst (λ (z : ℤ). IfSome c.look_place_row.result (λ t. (m : Memory Value) → IsBut r.buffer (memory_of r.memory.now) m → (k : ℕ) → k < length out →
    found_as c.args.cast (look (around r.piece.now no_cells) m c.args.name.now ((z +ℤ pos k) ∷ others)) ≡ Some (typed t (word_at t out k)))) (to_z-of_z w64 c.args.first c.ranges.first)
    (finds_cast r c.args.name.now c.in_ok-source.source (Buffer c.in-Buffer.buffer) (length out) (λ k. (first +ℤ pos k) ∷ others) (λ t k. word_at t out k) c.args.cast c.look_place_row.result c.in-Buffer.is c.in_ok-source.ensures c.look_place_row.ensures)
