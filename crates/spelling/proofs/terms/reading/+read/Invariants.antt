use Rattle.std.proofs.Common.{◌≡◌, ◌-◌, [], length}
use Rattle.tree.specs.Term.{list_terms}
use Rattle.spelling.specs.Terms.Reading.{within, row_at}
use Rattle.spelling.proofs.Ranks.{rank}
use Rattle.spelling.proofs.terms.reading.+read.Given as goal

abbrev pub decreases-part : goal.decreases-part
decreases-part l = rank l.brackets 0

abbrev pub decreases-condition : goal.decreases-condition
decreases-condition l = rank l.brackets 0

abbrev pub decreases-bracketed : goal.decreases-bracketed
decreases-bracketed l = rank l.below 1

abbrev pub decreases-cast : goal.decreases-cast
decreases-cast l = rank l.below 1

abbrev pub decreases-extreme : goal.decreases-extreme
decreases-extreme l = rank l.below 1

abbrev pub decreases-clamp : goal.decreases-clamp
decreases-clamp l = rank l.below 1

abbrev pub decreases-select : goal.decreases-select
decreases-select l = rank l.below 1

abbrev pub decreases-indices : goal.decreases-indices
decreases-indices l = rank l.below 1

abbrev pub decreases-denied : goal.decreases-denied
decreases-denied l = rank l.below 1

abbrev pub decreases-both : goal.decreases-both
decreases-both l = rank l.below 1

abbrev pub decreases-named : goal.decreases-named
decreases-named l = rank l.below 2

abbrev pub decreases-word : goal.decreases-word
decreases-word l = rank l.below 3

abbrev pub decreases-node : goal.decreases-node
decreases-node l = rank l.below 4

abbrev pub decreases-compared : goal.decreases-compared
decreases-compared l = rank l.below 5

abbrev pub decreases-test : goal.decreases-test
decreases-test l = rank l.below 6

abbrev pub invariant-indices-loop : goal.invariant-indices-loop
invariant-indices-loop l = row_at (within l.below) (length l.text - l.counter) (list_terms l.found.items) l.rest ≡ row_at (within l.below) (length l.text) [] l.text
