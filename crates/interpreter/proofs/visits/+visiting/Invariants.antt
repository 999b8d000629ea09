use Rattle.std.proofs.Common.{length, drop, ℤ, List, ◌+◌, ◌*◌, ◌∷◌, flat_map}
use Rattle.plan.specs.Semantics.Actions.{Action}
use Rattle.interpreter.specs.Bindings.{symbols_of}
use Rattle.interpreter.specs.Pieces.{around}
use Rattle.interpreter.specs.States.{progress_of, IsAsLarge}
use Rattle.interpreter.specs.Steps.{steps}
use Rattle.interpreter.specs.Visits.{at_point, between, extended, KeepsFrom}
use Rattle.interpreter.proofs.Running.{Comes}
use Rattle.interpreter.proofs.visits.+visiting.Given as goal

abbrev pub decreases-visit_region : goal.decreases-visit_region
decreases-visit_region g l = 2 * length l.region.now

abbrev pub decreases-visit_numbers : goal.decreases-visit_numbers
decreases-visit_numbers g l = 2 * length l.region.now + 1

abbrev pub invariant-visit_numbers-loop-number : goal.invariant-visit_numbers-loop-number
invariant-visit_numbers-loop-number g l =
    let A = around l.walk.piece.now (g.C.Cells.cell l.cells) in
    let act : List ℤ → List Action = at_point l.walk.piece.now l.walk.visit in
    let f : ℤ → List Action = λ z. flat_map act (extended (symbols_of l.walk.symbols.now) l.region (z ∷ drop (length l.region + 1) l.initial.state.point.items)) in
    record {
      large : IsAsLarge l.initial.state l.state;
      kept : KeepsFrom (length l.region + 1) l.initial.state.point l.state.point;
      run : Comes A (steps A (flat_map f (between l.fn.numbers.low l.fn.numbers.high)) (progress_of l.initial.state)) (flat_map f (between l.number l.fn.numbers.high)) (progress_of l.state);
    }
