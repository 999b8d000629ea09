use Rattle.std.proofs.Common.{◌≡◌, drop}
use Rattle.std.specs.Option.{option_map}
use Rattle.algo.specs.Scoping.Standing.{first_refused, accepts, call_place, list_calls}
use Rattle.algo.proofs.scoping.calls.+calls.Given as goal

abbrev pub invariant-in_all-loop-index : goal.invariant-in_all-loop-index
invariant-in_all-loop-index g l =
    option_map call_place (first_refused (accepts (g.T.CallTest.accepted l.test)) (list_calls (drop l.index-index l.at)))
    ≡ option_map call_place (first_refused (accepts (g.T.CallTest.accepted l.test)) (list_calls l.at))
