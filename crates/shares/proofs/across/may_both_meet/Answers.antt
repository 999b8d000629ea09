use Rattle.plan.specs.Certificate.Cells.{grid_symbols}
use Rattle.shares.proofs.Crossing.{one_is_empty}
use Rattle.shares.proofs.across.may_both_meet.Goals as goal

pub returns-then-not-may : goal.returns-then-not-may
returns-then-not-may c _ at between =
    one_is_empty (grid_symbols at) c.args.span.now c.args.other.now c.as_slice-uppers.result.now c.as_slice-lowers.result.now c.as_slice-uppers.ensures c.as_slice-lowers.ensures
    c.loop-place.place c.index-uppers-place.result c.loop-place-test.true c.index-uppers-place.is (c.in_ok-may.ensures c.if-not-may.true at between)
