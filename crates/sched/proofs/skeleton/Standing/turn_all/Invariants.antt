use Rattle.std.proofs.Common.{◌≡◌, drop}
use Rattle.sched.specs.Standing.{standing_of}
use Rattle.sched.specs.Skeleton.{turn_all}
use Rattle.sched.proofs.skeleton.Standing.turn_all.Given as goal

abbrev pub invariant-loop-turning : goal.invariant-loop-turning
invariant-loop-turning l = turn_all l.numbers l.cuts (drop l.turning-index l.turnings) (standing_of l.self) ≡ turn_all l.numbers l.cuts l.turnings (standing_of l.initial.self)
