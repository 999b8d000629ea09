use Rattle.std.proofs.Common.{◌≡◌, ◌++◌, map, drop}
use Rattle.sched.specs.Placing.{start, subject_of, placed_of}
use Rattle.sched.proofs.placing.starts.Given as goal

abbrev pub invariant-loop-subject : goal.invariant-loop-subject
invariant-loop-subject l = map placed_of l.placed.items ++ map start (map subject_of (drop l.subject-index l.subjects)) ≡ map start (map subject_of l.subjects)
