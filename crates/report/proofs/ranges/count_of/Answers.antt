use Rattle.std.proofs.Common.{rules, w64, SFits}
use Rattle.std.proofs.lemmas.Int.{to_z-of_z}
use Rattle.report.proofs.Turns.{gap_counted}
use Rattle.report.proofs.ranges.count_of.Goals as goal

pub returns-else-range : goal.returns-else-range
returns-else-range c =
    let high_fits : SFits w64 c.args.range.high = search rules in
    let low_fits : SFits w64 c.args.range.low = search rules in
    gap_counted c.args.range _ _ c.abs_diff.result c.saturating_add.result (to_z-of_z w64 c.args.range.high high_fits) (to_z-of_z w64 c.args.range.low low_fits)
    c.if-range.false c.abs_diff.ensures c.saturating_add.ensures
