use Rattle.std.proofs.Common.{◌≡◌, take, map}
use Rattle.plan.specs.View.{coordinate_of}
use Rattle.plan.proofs.copying.copy_coordinates.Given as goal

abbrev pub invariant-loop-coordinate : goal.invariant-loop-coordinate
invariant-loop-coordinate l = map coordinate_of l.copied.items ≡ map coordinate_of (take l.coordinate-index l.coordinates)
