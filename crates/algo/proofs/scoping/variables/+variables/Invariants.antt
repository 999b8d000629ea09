use Rattle.std.proofs.Common.{◌≡◌, drop}
use Rattle.std.specs.Option.{option_map}
use Rattle.algo.specs.Scoping.Standing.{first_refused, list_variables}
use Rattle.algo.proofs.scoping.variables.+variables.Given as goal

abbrev pub invariant-in_all-loop-index : goal.invariant-in_all-loop-index
invariant-in_all-loop-index g l =
    option_map (λ p. p.1) (first_refused (g.T.VariableTest.accepted l.test) (list_variables (drop l.index-index l.at)))
    ≡ option_map (λ p. p.1) (first_refused (g.T.VariableTest.accepted l.test) (list_variables l.at))
