use Rattle.std.proofs.Common.{◌≡◌, ℕ, ℤ, List, pos, ◌+ℤ◌, ◌-ℤ◌, ◌≤ℤ◌}
use Rattle.std.specs.Prelude.{flat_map}
use Rattle.tree.specs.declared.value.Value.{Value}
use Rattle.tree.specs.Term.{term_of}
use Rattle.plan.specs.Symbols.{clipped}
use Rattle.plan.specs.Semantics.Actions.{Action}
use Rattle.interpreter.specs.Bindings.{symbols_of}
use Rattle.interpreter.specs.Pieces.{around}
use Rattle.interpreter.specs.Runs.{store_at}
use Rattle.interpreter.specs.States.{progress_of, IsAsLarge}
use Rattle.interpreter.specs.Steps.{steps}
use Rattle.interpreter.specs.Visits.{between}
use Rattle.interpreter.proofs.Running.{Comes}
use Rattle.interpreter.proofs.runs.run_stores.Given as goal

abbrev pub decreases-loop-low : goal.decreases-loop-low
decreases-loop-low l = clipped ((l.turns.high +ℤ pos 1) -ℤ l.low)

abbrev pub invariant-loop-low : goal.invariant-loop-low
invariant-loop-low l =
    let f : ℕ → ℤ → List Action = λ d. store_at l.piece l.line.buffer l.line.coordinates.now (term_of l.line.value.now) (symbols_of l.initial.symbols) l.turns.symbol l.turns.low d in
    record {
      symbols : l.symbols ≡ l.initial.symbols;
      large : IsAsLarge l.initial.state l.state;
      low : l.turns.low ≤ℤ l.low;
      run : (d : ℕ) (cell : List ℕ → List ℤ → Value) →
          Comes (around l.piece cell) (steps (around l.piece cell) (flat_map (f d) (between l.turns.low l.turns.high)) (progress_of l.initial.state))
          (flat_map (f d) (between l.low l.turns.high)) (progress_of l.state);
    }
