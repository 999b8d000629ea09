use Rattle.std.proofs.Common.{◌≡◌, drop}
use Rattle.sched.specs.Standing.{settle_some, settle, standing_of}
use Rattle.sched.proofs.skeleton.Standing.settle.Given as goal

abbrev pub invariant-loop-cut : goal.invariant-loop-cut
invariant-loop-cut l = settle_some l.within l.numbers l.cuts (drop l.cut-index l.cuts) (standing_of l.self) ≡ settle l.within l.numbers l.cuts (standing_of l.initial.self)
