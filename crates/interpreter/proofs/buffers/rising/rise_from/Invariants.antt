use Rattle.std.proofs.Common.{◌≡◌, ◌+◌}
use Rattle.interpreter.proofs.PlaceNumbers.{PlacesBelow}
use Rattle.interpreter.proofs.buffers.rising.rise_from.Given as goal

abbrev pub invariant-loop-turn : goal.invariant-loop-turn
invariant-loop-turn l = PlacesBelow (λ k n. n ≡ l.start + k) l.turn l.initial.places l.places
