use Rattle.std.proofs.Common.{◌≡◌, ◌++◌, drop, map}
use Rattle.tree.specs.Term.{list_terms, indices}
use Rattle.algo.specs.Scoping.Standing.{calls_of_all}
use Rattle.sched.specs.Calls.{call_of}
use Rattle.sched.proofs.calls.+calls.Given as goal

abbrev pub invariant-with_calls_of_all-loop-index : goal.invariant-with_calls_of_all-loop-index
invariant-with_calls_of_all-loop-index l =
    map call_of l.known.items ++ calls_of_all (indices (list_terms (drop l.index-index l.at))) ≡ map call_of l.fn.known.items ++ calls_of_all (indices (list_terms l.at))
