use Rattle.std.proofs.Common.{◌≡◌, map, drop}
use Rattle.sched.specs.View.{directive_of}
use Rattle.sched.specs.Placing.{all_in, subject_of, placed_of}
use Rattle.sched.proofs.placing.apply_all.Given as goal

abbrev pub invariant-loop-directive : goal.invariant-loop-directive
invariant-loop-directive l = all_in (subject_of l.subject) (map directive_of (drop l.directive-index l.directives)) (placed_of l.placed) ≡ all_in (subject_of l.subject) (map directive_of l.directives) (placed_of l.initial.placed)
