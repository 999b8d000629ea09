use Rattle.interpreter.proofs.NamedPlaces.{IsBefore}
use Rattle.interpreter.proofs.reading.place_among.Given as goal

abbrev pub invariant-loop-place : goal.invariant-loop-place
invariant-loop-place l = IsBefore l.coordinates l.name l.place
