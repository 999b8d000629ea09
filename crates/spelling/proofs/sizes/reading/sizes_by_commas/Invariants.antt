use Rattle.std.proofs.Common.{◌≡◌, ◌-◌, []}
use Rattle.spelling.specs.Words.Reading.{separated_from}
use Rattle.spelling.specs.Sizes.Sizes.{size_from}
use Rattle.spelling.proofs.sizes.reading.sizes_by_commas.Given as goal

abbrev pub invariant-loop : goal.invariant-loop
invariant-loop l = separated_from 44 size_from (l.most - l.counter) l.found.items l.rest ≡ separated_from 44 size_from l.most [] l.text
