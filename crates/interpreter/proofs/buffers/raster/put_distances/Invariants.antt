use Rattle.std.proofs.Common.{◌<◌, ◌≤◌, ◌^◌, ℕ, pos}
use Rattle.std.specs.Prelude.{◌+ℤ◌, ◌≤ℤ◌}
use Rattle.plan.specs.Rooms.{Straight}
use Rattle.interpreter.specs.Evaluation.Lanes.{number_at}
use Rattle.interpreter.specs.PlaceNumbers.{IsOneMore}
use Rattle.interpreter.proofs.PlaceNumbers.{PlacesBelow}
use Rattle.interpreter.proofs.buffers.raster.put_distances.Given as goal

abbrev pub invariant-loop-turn : goal.invariant-loop-turn
invariant-loop-turn l =
    PlacesBelow (λ k n. (n ≤ l.bits) × ((w : ℕ) → (l.origin +ℤ pos w) ≤ℤ pos (2 ^ 63) → n < w → IsOneMore (Straight l.origin w) (number_at l.numbers k) 0 n)) l.turn l.initial.places l.places
