use Rattle.std.proofs.Common.{◌≡◌, ◌∙◌, rules}
use Rattle.bounds.specs.Spans.{numbers}
use Rattle.crop.proofs.OfInference.Unions.{more_domain}
use Rattle.crop.proofs.regions.with_domain.Goals as goal

pub loop-range-preserved : goal.loop-range-preserved
loop-range-preserved c =
    let is : c.in_ok-numbers.field-0 ≡ numbers c.range-item.result.low c.range-item.result.high = search rules in
    c.in_ok-push.ensures.ok ∙ more_domain c.args.region.now c.loop-range.made c.args.ranges.now c.loop-range.range-index c.range-item.result c.in_ok-numbers.field-0 c.loop-range-test.true c.range-item.is is c.loop-range.invariant
