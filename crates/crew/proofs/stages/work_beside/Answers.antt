use denote.Param.Send.{sendable}
use Rattle.std.proofs.Common.{◌+◌, ◌∙◌, get_or, arith}
use Rattle.std.proofs.Crossing.{crosses}
use Rattle.board.specs.Seen.{seen_bits}
use Rattle.crew.proofs.Shared.{desk_send}
use Rattle.crew.proofs.Staged.{can_all, done_of_none}
use Rattle.crew.proofs.stages.work_beside.Goals as goal

pub work_together-requires-send-D : goal.work_together-requires-send-D
work_together-requires-send-D g c κs within = search (sendable, crosses, desk_send) depth 20

pub work_together-requires-clause-can : goal.work_together-requires-clause-can
work_together-requires-clause-can g c κs within =
    let stage = c.requires.stage in
    let crew = c.requires.crew in
    can_all _ g.J.Run.layout g.J.Run.values (g.P.PrivateRuns.plan c.args.runs.now) (g.P.PrivateRuns.suffices c.args.runs.now) (seen_bits c.args.seen.now) c.args.first c.args.desks.now c.args.lists.now c.args.none.now
    crew.0 crew.1 crew.2 c.requires.lists stage.0 stage.1 (omega (arith, c.requires.none)) c.requires.put

pub returns-clause-lists : goal.returns-clause-lists
returns-clause-lists g c i d lt =
    let s = c.args.seen.now in
    done_of_none g.J.Run.layout g.J.Run.values s 0 c.work_together.new.part s.samples (c.args.first + i) (get_or c.work_together.new.lists i d) (c.work_together.auto.part ∙ c.requires.none) (c.work_together.ensures.each_list i d lt)
