use Rattle.std.proofs.Common.{◌≡◌, take, true}
use Rattle.std.specs.List.{list_all}
use Rattle.report.specs.Known.{known_of}
use Rattle.report.specs.Ranges.{has_one}
use Rattle.report.proofs.ranges.are_settled.Given as goal

abbrev pub invariant-loop-term : goal.invariant-loop-term
invariant-loop-term l = list_all (λ t. has_one (known_of l.known t.symbol)) (take l.term-index l.terms) ≡ true
