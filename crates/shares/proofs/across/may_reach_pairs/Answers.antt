use Rattle.plan.specs.Symbols.{form_value, largest}
use Rattle.plan.specs.Certificate.Cells.{grid_symbols}
use Rattle.shares.proofs.Crossing.{below_largest_behind}
use Rattle.shares.proofs.across.may_reach_pairs.Goals as goal

pub returns-then-not-may : goal.returns-then-not-may
returns-then-not-may c _ at between =
    let s = grid_symbols at in
    below_largest_behind s (form_value c.args.upper.now s) (largest s c.args.lowers.now) c.args.others.now c.loop-place.place c.index-others-place.result c.loop-place-test.true c.index-others-place.is
    (c.in_ok-may.ensures c.if-not-may.true at between)
