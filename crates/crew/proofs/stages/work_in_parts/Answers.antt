use denote.Param.Send.{sendable}
use Rattle.std.proofs.Crossing.{crosses}
use Rattle.board.specs.Seen.{seen_bits}
use Rattle.crew.proofs.Shared.{desk_send}
use Rattle.crew.proofs.Staged.{can_all, put_besides}
use Rattle.crew.proofs.stages.work_in_parts.Goals as goal

pub work_together-requires-send-D : goal.work_together-requires-send-D
work_together-requires-send-D g c κs within = search (sendable, crosses, desk_send) depth 20

pub work_together-requires-clause-can : goal.work_together-requires-clause-can
work_together-requires-clause-can g c κs within =
    let s = c.args.seen.now in
    let stage = c.requires.stage in
    let crew = c.requires.crew in
    can_all _ g.J.Run.layout g.J.Run.values (g.P.PrivateRuns.plan c.args.runs.now) (g.P.PrivateRuns.suffices c.args.runs.now) (seen_bits s) c.args.first c.args.desks.now c.args.lists.now c.args.samples.now
    crew.0 crew.1 crew.2 c.requires.lists stage.0 stage.1 c.requires.short (put_besides g.J.Run.layout g.J.Run.values s c.args.samples.now s.samples c.args.first c.requires.none c.requires.put)

pub returns-clause-put : goal.returns-clause-put
returns-clause-put g c =
    put_besides g.J.Run.layout g.J.Run.values c.args.seen.now c.args.samples.now c.work_together.new.part c.args.first c.requires.none c.requires.put
