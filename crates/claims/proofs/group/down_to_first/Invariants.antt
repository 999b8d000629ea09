use Rattle.claims.specs.First.{IsUnmetInGroup}
use Rattle.claims.proofs.Firsts.{place}
use Rattle.claims.proofs.group.down_to_first.Given as goal

abbrev pub invariant-loop-earlier : goal.invariant-loop-earlier
invariant-loop-earlier l = IsUnmetInGroup l.bounds.bounds l.found

abbrev pub decreases-loop-earlier : goal.decreases-loop-earlier
decreases-loop-earlier l = place l.found
