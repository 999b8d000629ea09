use Rattle.std.proofs.Common.{◌≡◌, ◌++◌, drop, map}
use Rattle.sched.specs.Placing.{subject_of}
use Rattle.blocks.specs.Stored.{flags}
use Rattle.blocks.proofs.definitions.stored_flags.Given as goal

abbrev pub invariant-loop-subject : goal.invariant-loop-subject
invariant-loop-subject l = l.stored.items ++ flags (map subject_of (drop l.subject-index l.subjects)) ≡ flags (map subject_of l.subjects)
