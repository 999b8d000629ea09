use Rattle.std.proofs.Common.{◌≡◌, map, drop}
use Rattle.sched.specs.Placing.{placed_of}
use Rattle.sched.specs.Standing.{◌>>=◌, standing_of}
use Rattle.sched.specs.Skeleton.{body_of, nest_seen, nests_in}
use Rattle.sched.proofs.Nests.{behind}
use Rattle.sched.proofs.nest.nests_in.Given as goal

abbrev pub invariant-loop-body : goal.invariant-loop-body
invariant-loop-body l = (nests_in l.variables (placed_of l.placed) l.numbers (standing_of l.head) (map body_of (drop l.body-index l.bodies)) l.next >>= behind (map nest_seen l.nests.items)) ≡ nests_in l.variables (placed_of l.placed) l.numbers (standing_of l.head) (map body_of l.bodies) l.head.next
