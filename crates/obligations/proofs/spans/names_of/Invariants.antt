use Rattle.std.proofs.Common.{◌≡◌, take, map}
use Rattle.obligations.specs.Loads.{names_of}
use Rattle.obligations.proofs.spans.names_of.Given as goal

abbrev pub invariant-loop-coordinate : goal.invariant-loop-coordinate
invariant-loop-coordinate l = map (λ x. x.now) l.names.items ≡ names_of (take l.coordinate-index l.coordinates)
