use Rattle.std.proofs.Common.{◌≡◌, ◌-◌, [], length}
use Rattle.spelling.specs.Words.Reading.{separated_from}
use Rattle.spelling.specs.Sizes.Sizes.{size_from}
use Rattle.nest.proofs.reading.grid_from.Given as goal

abbrev pub invariant-loop : goal.invariant-loop
invariant-loop l = separated_from 32 size_from (length l.text - l.counter) l.found.items l.rest ≡ separated_from 32 size_from (length l.text) [] l.text
