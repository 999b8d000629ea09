use Rattle.std.proofs.Common.{◌∷◌, ◌<◌, ℕ, ℤ, List, drop, pos}
use Rattle.std.specs.Prelude.{◌+ℤ◌}
use Rattle.interpreter.specs.Buffers.Spots.{HasPlace, IsSpot}
use Rattle.interpreter.specs.Pieces.{around}
use Rattle.interpreter.specs.RowVisits.{row_takes}
use Rattle.interpreter.specs.States.{progress_of, IsAsLarge}
use Rattle.interpreter.specs.Steps.{steps}
use Rattle.interpreter.specs.Visits.{KeepsFrom}
use Rattle.interpreter.specs.declared.buffers.spot.Spot.{Spot}
use Rattle.interpreter.specs.declared.piece.Piece.{Piece}
use Rattle.interpreter.proofs.Running.{Comes}
use Rattle.interpreter.proofs.row_visits.fetch_places.Given as goal

abbrev pub invariant-loop-turn : goal.invariant-loop-turn
invariant-loop-turn g l =
    let old = l.initial.state in
    let others : List ℤ = drop 1 old.point.items in
    record {
      large : IsAsLarge old l.state;
      kept : KeepsFrom 1 old.point l.state.point;
      places : (i n : ℕ) → HasPlace old.memory i n → HasPlace l.state.memory i n;
      spots : (b : ℕ) (p : List ℤ) (s : Spot) (k : ℕ) → IsSpot old.memory b p s k → IsSpot l.state.memory b p s k;
      run : (x : Piece) (b : ℕ) → ((k : ℕ) → k < l.count → IsSpot old.memory b ((l.numbers.low +ℤ pos k) ∷ others) l.spot k) →
          Comes (around x (g.C.Cells.cell l.cells)) (steps (around x (g.C.Cells.cell l.cells)) (row_takes b l.function others l.numbers.low l.numbers.high) (progress_of old))
          (row_takes b l.function others (l.numbers.low +ℤ pos l.turn) l.numbers.high) (progress_of l.state);
    }
