use Rattle.std.proofs.Common.{◌≡◌, take}
use Rattle.std.specs.Prelude.{filter, not, ◌==◌}
use Rattle.lin.proofs.terms.terms_without.Given as goal

abbrev pub invariant-loop-term : goal.invariant-loop-term
invariant-loop-term l = l.rest.items ≡ filter (λ t. not (t.symbol == l.symbol)) (take l.term-index l.terms)
