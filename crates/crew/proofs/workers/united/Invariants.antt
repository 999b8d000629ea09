use Rattle.std.proofs.Common.{vec_len}
use Rattle.crew.proofs.Joining.{IsJoining}
use Rattle.crew.proofs.workers.united.Given as goal

abbrev pub invariant-loop-worker : goal.invariant-loop-worker
invariant-loop-worker g l = IsJoining l.board l.seat l.workers.items

abbrev pub decreases-loop-worker : goal.decreases-loop-worker
decreases-loop-worker g l = vec_len l.workers
