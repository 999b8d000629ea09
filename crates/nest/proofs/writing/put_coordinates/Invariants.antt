use Rattle.std.proofs.Common.{◌≡◌, ◌++◌, take}
use Rattle.std.specs.Prelude.{string_bytes}
use Rattle.std.specs.List.{flat_map}
use Rattle.plan.specs.View.{coordinate_of}
use Rattle.nest.specs.Spelling.{spaced_coordinate}
use Rattle.nest.proofs.writing.put_coordinates.Given as goal

abbrev pub invariant-loop-coordinate : goal.invariant-loop-coordinate
invariant-loop-coordinate l = string_bytes l.text ≡ string_bytes l.fn.text ++ flat_map (λ c. spaced_coordinate (coordinate_of c)) (take l.coordinate-index l.all)
