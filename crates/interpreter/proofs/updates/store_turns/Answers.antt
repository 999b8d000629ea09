use Rattle.std.proofs.Common.{◌≡◌, ℕ, List, Option, Some, None, sym, ◌∙◌}
use Rattle.tree.specs.declared.value.Value.{Value}
use Rattle.tree.specs.Term.{term_of}
use Rattle.plan.specs.Semantics.Memory.{Memory}
use Rattle.interpreter.specs.Bindings.{symbols_of}
use Rattle.interpreter.specs.Buffers.Blocks.{memory_of}
use Rattle.interpreter.specs.HeldTurns.{updated}
use Rattle.interpreter.specs.Sizes.{size_in}
use Rattle.interpreter.specs.declared.evaluation.lanes.Number.{Number}
use Rattle.interpreter.proofs.HeldTurns.{run_updated}
use Rattle.interpreter.proofs.updates.store_turns.Goals as goal

pub returns-in-Some-clause-run : goal.returns-in-Some-clause-run
returns-in-Some-clause-run c = λ d cell.
    let x = c.args.piece.now in
    let line = c.args.line.now in
    let part = c.args.part in
    let state = c.args.state.now in
    let b = line.buffer in
    let u = c.args.update in
    let n = part.count in
    let size : ℕ = size_in x.sizes.now b in
    let memory = memory_of state.memory in
    let after : ℕ → List Number → Option (Memory Value) = λ y ys. updated n y b u ys memory n in
    let is : after size state.registers.items ≡ Some (memory_of c.turn_all.new.self) = (λ i. after (sym c.size_in.ensures i) (sym c.deref.ensures.value i)) ∙ sym c.in-Some.ensures.run in
    run_updated x cell b d n size line.coordinates.now (term_of line.value.now) (symbols_of c.args.symbols.now) part.turns.symbol part.turns.low part.low memory state.given.items u
    state.registers.items (c.requires.ready.sizes b) c.requires.finds (Some (memory_of c.turn_all.new.self)) is

pub returns-in-None-clause-run : goal.returns-in-None-clause-run
returns-in-None-clause-run c = λ d cell.
    let x = c.args.piece.now in
    let line = c.args.line.now in
    let part = c.args.part in
    let state = c.args.state.now in
    let b = line.buffer in
    let u = c.args.update in
    let n = part.count in
    let size : ℕ = size_in x.sizes.now b in
    let memory = memory_of state.memory in
    let after : ℕ → List Number → Option (Memory Value) = λ y ys. updated n y b u ys memory n in
    let is : after size state.registers.items ≡ None = (λ i. after (sym c.size_in.ensures i) (sym c.deref.ensures.value i)) ∙ sym c.in-None.ensures.run in
    run_updated x cell b d n size line.coordinates.now (term_of line.value.now) (symbols_of c.args.symbols.now) part.turns.symbol part.turns.low part.low memory state.given.items u
    state.registers.items (c.requires.ready.sizes b) c.requires.finds None is
