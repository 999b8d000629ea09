use Rattle.std.proofs.Common.{◌≡◌, true, ◌++◌, map, drop}
use Rattle.std.specs.List.{list_all}
use Rattle.algo.specs.Parts.{function_of}
use Rattle.algo.specs.View.{algorithm_of}
use Rattle.sched.specs.View.{schedule_of}
use Rattle.sched.specs.Placing.{subject_of}
use Rattle.sched.specs.Subjects.{has_own_names, subject_said}
use Rattle.sched.proofs.subject.subjects.Given as goal

abbrev pub invariant-loop-k : goal.invariant-loop-k
invariant-loop-k l = record {
  named : list_all has_own_names (map function_of (drop l.k l.functions.entries)) ≡ true;
  left : map subject_of l.found.items ++ map (subject_said (algorithm_of l.algo) (schedule_of l.sched)) (map function_of (drop l.k l.functions.entries)) ≡ map (subject_said (algorithm_of l.algo) (schedule_of l.sched)) (map function_of l.functions.entries);
}
