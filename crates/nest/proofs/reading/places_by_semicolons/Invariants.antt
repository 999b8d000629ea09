use Rattle.std.proofs.Common.{◌≡◌, ◌-◌, []}
use Rattle.spelling.specs.Words.Reading.{separated_from}
use Rattle.nest.specs.Reading.{place_from}
use Rattle.nest.proofs.reading.places_by_semicolons.Given as goal

abbrev pub invariant-loop : goal.invariant-loop
invariant-loop l = separated_from 59 place_from (l.most - l.counter) l.found.items l.rest ≡ separated_from 59 place_from l.most [] l.text
