use Rattle.std.proofs.Common.{◌≡◌}
use Rattle.interpreter.proofs.PlaceNumbers.{PlacesBelow}
use Rattle.interpreter.proofs.buffers.raster.begin_places.Given as goal

abbrev pub invariant-loop-turn : goal.invariant-loop-turn
invariant-loop-turn l = PlacesBelow (λ k n. n ≡ 0) l.turn l.initial.places l.places
