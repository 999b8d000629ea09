use Rattle.plan.specs.Rooms.{Straight}
use Rattle.interpreter.specs.Evaluation.Lanes.{number_at}
use Rattle.interpreter.specs.PlaceNumbers.{IsOneMore}
use Rattle.interpreter.proofs.PlaceNumbers.{PlacesBelow}
use Rattle.interpreter.proofs.buffers.raster.first_column.Given as goal

abbrev pub invariant-loop-turn : goal.invariant-loop-turn
invariant-loop-turn l = PlacesBelow (λ k n. IsOneMore (Straight l.origin l.width) (number_at l.numbers k) 0 n) l.turn l.initial.places l.places
