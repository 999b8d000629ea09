use Rattle.std.proofs.Common.{◌≡◌, ◌++◌, map, drop}
use Rattle.sched.specs.Placing.{mark_loop}
use Rattle.sched.proofs.placing.marked_loops.Given as goal

abbrev pub invariant-loop-one : goal.invariant-loop-one
invariant-loop-one l = l.marked.items ++ map (mark_loop l.mark l.name) (drop l.one-index l.loops) ≡ map (mark_loop l.mark l.name) l.loops
