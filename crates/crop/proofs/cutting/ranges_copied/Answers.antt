use Rattle.std.proofs.Common.{map, ap, ◌∙◌}
use Rattle.algo.specs.Parts.{range_of}
use Rattle.crop.proofs.Steps.{more_mapped}
use Rattle.crop.proofs.cutting.ranges_copied.Goals as goal

pub loop-range-preserved : goal.loop-range-preserved
loop-range-preserved c =
    ap (map range_of) c.in_ok-push.ensures.items
    ∙ more_mapped range_of range_of c.loop-range.copied.items c.args.ranges.now c.loop-range.range-index c.in_ok-range_copied.field-0 c.range-item.result
    c.loop-range-test.true c.range-item.is c.in_ok-range_copied.ensures c.loop-range.invariant
