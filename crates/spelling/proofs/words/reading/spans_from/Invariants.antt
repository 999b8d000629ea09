use Rattle.std.proofs.Common.{◌≡◌, ◌-◌, []}
use Rattle.spelling.specs.Words.Reading.{span_from, separated_from}
use Rattle.spelling.proofs.words.reading.spans_from.Given as goal

abbrev pub invariant-loop : goal.invariant-loop
invariant-loop l = separated_from 59 span_from (l.most - l.counter) l.found l.rest ≡ separated_from 59 span_from l.most [] l.text
