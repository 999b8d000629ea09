use Rattle.plan.specs.Certificate.Cells.{grid_symbols}
use Rattle.shares.proofs.Crossing.{other_empty}
use Rattle.shares.proofs.across.may_meet_each.Goals as goal

pub returns-then-not-may : goal.returns-then-not-may
returns-then-not-may c _ at between =
    other_empty (grid_symbols at) c.args.span.now c.other-item.result c.args.others.now c.loop-other.other-index c.loop-other-test.true c.other-item.is
    (c.in_ok-may.ensures c.if-not-may.true at between)
