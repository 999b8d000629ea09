use Rattle.std.proofs.Common.{◌≡◌, ◌++◌, drop}
use Rattle.std.specs.List.{flat_map}
use Rattle.sched.specs.Placing.{cut_loop}
use Rattle.sched.proofs.placing.cut_loops.Given as goal

abbrev pub invariant-loop-one : goal.invariant-loop-one
invariant-loop-one l = l.cut.items ++ flat_map (cut_loop l.split) (drop l.one-index l.loops) ≡ flat_map (cut_loop l.split) l.loops
