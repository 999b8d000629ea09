use Rattle.plan.specs.Certificate.Cells.{grid_symbols}
use Rattle.shares.proofs.Crossing.{no_point_behind}
use Rattle.shares.proofs.across.dimensions_may_meet.Goals as goal

pub returns-then-not-may : goal.returns-then-not-may
returns-then-not-may c _ at between =
    no_point_behind (grid_symbols at) c.args.region.now c.loop-place.place c.index-region-place.result c.loop-place-test.true c.index-region-place.is
    (c.in_ok-may.ensures c.if-not-may.true at between)
