use Rattle.pnm.proofs.watched.WatchedSink.send.Goals as goal
use Rattle.pnm.proofs.Sending.{has_sent_slice}

pub loop-rest-preserved : goal.loop-rest-preserved
loop-rest-preserved g c = (
  has_sent_slice (g.W.Write.contents c.args.self.now.device.now) (g.W.Write.contents c.loop-rest.self.device.now) (g.W.Write.contents c.write.new.self) c.args.bytes.now c.loop-rest.rest.now c.in-Ok.count c.loop-rest.invariant.0 c.in-Ok.ensures.bytes,
  c.loop-rest.invariant.1,
  c.loop-rest.invariant.2,
)
