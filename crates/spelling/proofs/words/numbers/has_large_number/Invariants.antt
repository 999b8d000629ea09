use Rattle.std.proofs.Common.{◌≡◌, length}
use Rattle.spelling.specs.Words.Reading.{has_large_number, has_large_behind}
use Rattle.spelling.proofs.words.numbers.has_large_number.Given as goal

abbrev pub invariant-loop-rest : goal.invariant-loop-rest
invariant-loop-rest l = has_large_behind l.before l.rest ≡ has_large_number l.line

abbrev pub decreases-loop-rest : goal.decreases-loop-rest
decreases-loop-rest l = length l.rest
