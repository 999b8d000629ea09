use Rattle.std.proofs.Common.{◌≡◌, ◌-◌, [], map}
use Rattle.plan.specs.View.{coordinate_of}
use Rattle.nest.specs.Reading.{coordinates_from}
use Rattle.nest.proofs.reading.coordinates_from.Given as goal

abbrev pub invariant-loop : goal.invariant-loop
invariant-loop l = coordinates_from (l.most - l.counter) (map coordinate_of l.found.items) l.rest ≡ coordinates_from l.most [] l.text
