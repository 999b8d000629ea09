use Rattle.std.proofs.Common.{◌≡◌, length}
use Rattle.pnm.proofs.Sending.{HasSent}
use Rattle.pnm.proofs.watched.WatchedSink.send.Given as goal

abbrev pub invariant-loop-rest : goal.invariant-loop-rest
invariant-loop-rest g l = HasSent (g.W.Write.contents l.fn.self.device.now) (g.W.Write.contents l.self.device.now) l.bytes l.rest × (l.self.failed ≡ l.fn.self.failed) × (l.self.device.ghost_name ≡ l.fn.self.device.ghost_name)

abbrev pub decreases-loop-rest : goal.decreases-loop-rest
decreases-loop-rest g l = length l.rest
