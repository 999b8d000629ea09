use Rattle.std.proofs.Common.{sym, subst}
use Rattle.board.specs.Seen.{beside, seen_bits, Seen}
use Rattle.crew.specs.Stages.{AreDone, ArePut}
use Rattle.crew.proofs.stages.work_stage.Goals as goal

pub work_in_parts-requires-clause-put : goal.work_in_parts-requires-clause-put
work_in_parts-requires-clause-put g c κs within =
    subst (λ (b : Seen). ArePut g.J.Run.layout g.J.Run.values (seen_bits (beside b c.args.samples.now)) c.args.first) (sym c.cells-bare.ensures) c.requires.put

pub work_beside-requires-clause-put : goal.work_beside-requires-clause-put
work_beside-requires-clause-put g c κs within =
    subst (λ (b : Seen). ArePut g.J.Run.layout g.J.Run.values (seen_bits b) c.args.first) (sym c.cells-seen.ensures) c.requires.put

pub returns-then-none_shown-clause-put : goal.returns-then-none_shown-clause-put
returns-then-none_shown-clause-put g c =
    subst (λ (b : Seen). ArePut g.J.Run.layout g.J.Run.values (seen_bits (beside b c.work_in_parts.new.samples)) c.args.first) c.cells-bare.ensures c.work_in_parts.ensures.put

pub returns-then-none_shown-clause-lists : goal.returns-then-none_shown-clause-lists
returns-then-none_shown-clause-lists g c =
    subst (λ (b : Seen). AreDone g.J.Run.layout g.J.Run.values b 0 c.work_in_parts.new.samples c.args.first c.work_in_parts.new.lists) c.cells-bare.ensures c.work_in_parts.ensures.lists

pub returns-clause-lists : goal.returns-clause-lists
returns-clause-lists g c =
    subst (λ (b : Seen). AreDone g.J.Run.layout g.J.Run.values b 0 b.samples c.args.first c.work_beside.new.lists) c.cells-seen.ensures c.work_beside.ensures.lists
