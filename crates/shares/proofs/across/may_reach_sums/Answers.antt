use Rattle.plan.specs.Symbols.{form_value}
use Rattle.plan.specs.Certificate.Cells.{grid_symbols}
use Rattle.shares.proofs.Crossing.{below_largest}
use Rattle.shares.proofs.across.may_reach_sums.Goals as goal

pub returns-then-below : goal.returns-then-below
returns-then-below c _ at between =
    let s = grid_symbols at in
    below_largest s (form_value c.args.upper.now s) (form_value c.args.other.now s) c.args.lowers.now c.loop-place.place c.index-lowers-place.result c.loop-place-test.true c.index-lowers-place.is
    (c.in_ok-below.ensures c.if-below.true at between)
