use Rattle.std.proofs.Common.{◌≡◌, ◌-◌, ℕ, ℤ, List, pos, ◌+ℤ◌}
use Rattle.std.specs.Prelude.{flat_map}
use Rattle.tree.specs.declared.value.Value.{Value}
use Rattle.tree.specs.Term.{term_of}
use Rattle.plan.specs.Symbols.{rising}
use Rattle.plan.specs.Semantics.Actions.{Action}
use Rattle.interpreter.specs.Bindings.{symbols_of}
use Rattle.interpreter.specs.Buffers.Blocks.{memory_of}
use Rattle.interpreter.specs.Pieces.{around}
use Rattle.interpreter.specs.Runs.{store_at, IsBut}
use Rattle.interpreter.specs.States.{progress_of, IsAsLarge}
use Rattle.interpreter.specs.Steps.{steps}
use Rattle.interpreter.proofs.Running.{Comes}
use Rattle.interpreter.proofs.runs.write_points.Given as goal

abbrev pub invariant-loop-index : goal.invariant-loop-index
invariant-loop-index l =
    let f : ℕ → ℤ → List Action = λ d. store_at l.piece l.line.buffer l.line.coordinates.now (term_of l.line.value.now) (symbols_of l.initial.symbols) l.part.turns.symbol l.part.turns.low d in
    record {
      symbols : l.symbols ≡ l.initial.symbols;
      large : IsAsLarge l.initial.state l.state;
      words : l.state.words.items ≡ l.initial.state.words.items;
      but : IsBut l.line.buffer (memory_of l.initial.state.memory) (memory_of l.state.memory);
      run : (d : ℕ) (cell : List ℕ → List ℤ → Value) →
          Comes (around l.piece cell) (steps (around l.piece cell) (flat_map (f d) (rising l.part.low l.part.count)) (progress_of l.initial.state))
          (flat_map (f d) (rising (l.part.low +ℤ pos l.index) (l.part.count - l.index))) (progress_of l.state);
    }
