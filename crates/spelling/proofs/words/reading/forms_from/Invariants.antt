use Rattle.std.proofs.Common.{◌≡◌, ◌-◌, [], length}
use Rattle.spelling.specs.Words.Reading.{form_from, separated_from}
use Rattle.spelling.proofs.words.reading.forms_from.Given as goal

abbrev pub invariant-loop : goal.invariant-loop
invariant-loop l = separated_from 44 form_from (length l.text - l.counter) l.found l.rest ≡ separated_from 44 form_from (length l.text) [] l.text
