use Rattle.std.proofs.Common.{◌≡◌, true, ◌++◌, map, drop}
use Rattle.std.specs.List.{list_all}
use Rattle.algo.specs.Parts.{change_of}
use Rattle.sched.specs.Subjects.{has_range_names, reductions_of}
use Rattle.sched.proofs.subject.reductions.Given as goal

abbrev pub invariant-loop-update : goal.invariant-loop-update
invariant-loop-update l = record {
  named : list_all has_range_names (map change_of (drop l.update-index l.updates)) ≡ true;
  left : l.names.items ++ reductions_of (map change_of (drop l.update-index l.updates)) ≡ reductions_of (map change_of l.updates);
}
