use Rattle.std.proofs.Common.{List, subst}
use Rattle.std.specs.Prelude.{◌+ℤ◌, ◌<ℤ◌}
use Rattle.lin.specs.Forms.{Form}
use Rattle.plan.specs.Symbols.{form_value, largest, smallest}
use Rattle.plan.specs.Certificate.Cells.{grid_symbols}
use Rattle.shares.proofs.Crossing.{smallest_below}
use Rattle.shares.proofs.across.may_meet_by.Goals as goal

pub returns-then-not-may : goal.returns-then-not-may
returns-then-not-may c _ at between =
    let s = grid_symbols at in
    let x = c.args.span.now in
    let w = form_value c.args.upper.now s in
    let more = largest s c.args.others.now in
    let us = c.as_slice-uppers.result.now in
    let ls = c.as_slice-lowers.result.now in
    let here = smallest_below s (largest s ls +ℤ more) w us c.loop-place.place c.index-uppers-place.result c.loop-place-test.true c.index-uppers-place.is (c.in_ok-may.ensures c.if-not-may.true at between) in
    subst (λ (fs : List Form). (smallest s fs +ℤ w) <ℤ (largest s x.lower +ℤ more)) c.as_slice-uppers.ensures
    (subst (λ (fs : List Form). (smallest s us +ℤ w) <ℤ (largest s fs +ℤ more)) c.as_slice-lowers.ensures here)
