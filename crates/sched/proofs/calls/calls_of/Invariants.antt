use Rattle.std.proofs.Common.{◌≡◌, ◌++◌, drop, map}
use Rattle.std.specs.List.{flat_map}
use Rattle.std.specs.Option.{option_map}
use Rattle.tree.specs.Term.{term_of}
use Rattle.sched.specs.Calls.{call_of}
use Rattle.sched.specs.Stored.{calls_left}
use Rattle.sched.proofs.calls.calls_of.Given as goal

abbrev pub invariant-loop-index : goal.invariant-loop-index
invariant-loop-index l =
    map call_of l.calls.items ++ flat_map calls_left (map (option_map term_of) (drop l.index-index l.formula.at.items)) ≡ flat_map calls_left (map (option_map term_of) l.formula.at.items)
