use Rattle.std.proofs.Common.{◌≡◌, map, drop}
use Rattle.std.specs.List.{list_all}
use Rattle.algo.specs.Parts.{function_of}
use Rattle.sched.specs.Subjects.{has_own_names}
use Rattle.sched.proofs.subject.has_names.Given as goal

abbrev pub invariant-loop-k : goal.invariant-loop-k
invariant-loop-k l = list_all has_own_names (map function_of (drop l.k l.functions.entries)) ≡ list_all has_own_names (map function_of l.functions.entries)
