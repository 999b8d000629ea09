use Rattle.std.proofs.Common.{◌*◌, ◌<◌, ap, ◌∙◌, subst}
use Rattle.std.proofs.lemmas.Bool.{false≢true}
use Rattle.algo.proofs.Sizes.{size-more, size-above}
use Rattle.algo.proofs.scoping.ranges.size_within.Goals as goal

pub returns-in-None : goal.returns-in-None
returns-in-None c =
    let above : c.loop-range.points * c.width.result < 18446744073709551616 → ⊥ = c.in-None.ensures in
    let big = subst (λ n. c.loop-range.points * n < 18446744073709551616 → ⊥) c.width.ensures above in (
      λ e. absurd (false≢true e),
      λ h. absurd (size-above c.args.ranges.now c.loop-range.range-index _ c.loop-range.points 18446744073709551616 c.args.limit c.loop-range-test.true big c.ranges.limit.fits c.loop-range.invariant h),
    )

pub loop-range-preserved : goal.loop-range-preserved
loop-range-preserved c =
    let product = c.in-Some.ensures.1 ∙ ap (λ n. c.loop-range.points * n) c.width.ensures in
    size-more c.args.ranges.now c.loop-range.range-index _ c.loop-range.points c.in-Some.more c.loop-range-test.true product c.loop-range.invariant
