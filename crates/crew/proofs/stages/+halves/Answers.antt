use borrow.Author.Rules.{rules}
use Rattle.std.proofs.Common.{◌≡◌, ◌+◌, ◌<◌, length, arith}
use Rattle.board.specs.Seen.{seen_bits}
use Rattle.crew.proofs.Staged.{can_behind, can_front, worked_together}
use Rattle.crew.proofs.stages.+halves.Goals as goal

pub work_together-work_halves-requires : goal.work_together-work_halves-requires
work_together-work_halves-requires g t c κs within =
    let L = g.J.Run.layout in
    let V = g.J.Run.values in
    let x = g.P.PrivateRuns.plan c.args.runs.now in
    let S = g.P.PrivateRuns.suffices c.args.runs.now in
    let bits = seen_bits c.args.seen.now in
    let desks = c.split_at_mut-some_desks in
    let lists = c.split_at_mut-some_lists in
    let samples = c.split_at_mut-some_samples in
    let many : 0 < length c.args.desks.now = c.requires.can.some in
    let some : 0 < length desks.result.0.now = omega (arith, desks.ensures.front_len, c.if-count-eq1.false, many) in
    let others : 0 < length desks.result.1.now = omega (arith, desks.ensures.back_len, c.if-count-eq1.false, many) in
    let at_list : c.args.first + c.min-at.result ≡ c.args.first + length lists.result.0.now = omega (arith, lists.ensures.front_len) in
    let at_sample : c.args.from + c.cut_before-cut.result ≡ c.args.from + length samples.result.0.now = omega (arith, samples.ensures.front_len) in
    let front = can_front g.D.HasDesk.desk L V x S bits c.args.first c.args.from c.args.desks.now desks.result.0.now desks.result.1.now c.args.lists.now lists.result.0.now lists.result.1.now
    c.args.part.now samples.result.0.now samples.result.1.now desks.ensures.value lists.ensures.value samples.ensures.value some c.requires.can in
    let back = can_behind g.D.HasDesk.desk L V x S bits c.args.first c.args.from (c.args.first + c.min-at.result) (c.args.from + c.cut_before-cut.result)
    c.args.desks.now desks.result.0.now desks.result.1.now c.args.lists.now lists.result.0.now lists.result.1.now
    c.args.part.now samples.result.0.now samples.result.1.now desks.ensures.value lists.ensures.value samples.ensures.value others at_list at_sample c.requires.can in
    (search rules, (within.0, (within.1.0, (within.1.1.0, (within.1.1.1.0, (within.1.1.1.1, (search rules, (search rules, (search rules, (search rules, (search rules, (search rules, (c.requires.runs, (front, back))))))))))))))

pub work_together-returns : goal.work_together-returns
work_together-returns g t c =
    let lists = c.split_at_mut-some_lists in
    let samples = c.split_at_mut-some_samples in
    let at_list = c.work_halves.auto.some_lists in
    let at_sample = c.work_halves.auto.some_samples in
    worked_together g.D.HasDesk.desk g.J.Run.layout g.J.Run.values (g.P.PrivateRuns.plan c.args.runs.now) (g.P.PrivateRuns.suffices c.args.runs.now) c.args.seen.now c.args.first c.args.from
    (c.args.first + c.min-at.result) (c.args.from + c.cut_before-cut.result) _ _ _ _ _ _
    (omega (arith, lists.ensures.front_len, at_list)) (omega (arith, samples.ensures.front_len, at_sample)) c.work_halves.ensures.front c.work_halves.ensures.back
