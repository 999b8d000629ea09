use Rattle.std.proofs.Common.{◌≡◌, map, drop}
use Rattle.sched.specs.View.{scheduled_of}
use Rattle.sched.specs.Placing.{schedule_in, subject_of, placed_of}
use Rattle.sched.proofs.placing.apply_schedule.Given as goal

abbrev pub invariant-loop-scheduled : goal.invariant-loop-scheduled
invariant-loop-scheduled l = schedule_in (map subject_of l.subjects) (map scheduled_of (drop l.scheduled-index l.functions)) (map placed_of l.placed) ≡ schedule_in (map subject_of l.subjects) (map scheduled_of l.functions) (map placed_of l.initial.placed)
