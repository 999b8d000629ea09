use Rattle.std.proofs.Common.{◌≡◌, true, ◌++◌, map, drop}
use Rattle.std.specs.List.{list_all}
use Rattle.meaning.specs.Algorithm.{Function}
use Rattle.algo.specs.Parts.{function_of}
use Rattle.sched.specs.Subjects.{has_own_names}
use Rattle.sched.proofs.subject.function_names.Given as goal

abbrev pub invariant-loop-k : goal.invariant-loop-k
invariant-loop-k l = record {
  named : list_all has_own_names (map function_of (drop l.k l.functions.entries)) ≡ true;
  left : l.names.items ++ map (λ f. Function.name f) (map function_of (drop l.k l.functions.entries)) ≡ map (λ f. Function.name f) (map function_of l.functions.entries);
}
