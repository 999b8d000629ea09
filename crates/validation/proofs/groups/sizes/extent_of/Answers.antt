use Rattle.std.proofs.Common.{ℕ, ◌+◌, ◌-◌, ◌^◌, min, ap, ◌∙◌, arith, rules}
use Rattle.std.specs.Prelude.{◌-ℤ◌}
use Rattle.std.proofs.lemmas.Int.{ints, to_z-of_z}
use Rattle.validation.proofs.Extents.{no_extent, some_extent}
use Rattle.validation.proofs.groups.sizes.extent_of.Goals as goal
use mir.Syntax.{w64}
use mir.Val.{SFits}
use lib.IntN.{nat_abs}

pub returns-then-high-low : goal.returns-then-high-low
returns-then-high-low c =
    let low_fits : SFits w64 c.low_end-low.result = search rules in
    let high_fits : SFits w64 c.high_end-high.result = search rules in
    let low = to_z-of_z w64 c.low_end-low.result low_fits in
    let high = to_z-of_z w64 c.high_end-high.result high_fits in
    no_extent c.args.span.now c.low_end-low.result c.high_end-high.result c.low_end-low.ensures c.high_end-high.ensures
    (omega (arith, ints, low, high, c.if-high-low.true))

pub returns-else-high-low : goal.returns-else-high-low
returns-else-high-low c =
    let low_fits : SFits w64 c.low_end-low.result = search rules in
    let high_fits : SFits w64 c.high_end-high.result = search rules in
    let low = to_z-of_z w64 c.low_end-low.result low_fits in
    let high = to_z-of_z w64 c.high_end-high.result high_fits in
    some_extent c.args.span.now c.low_end-low.result c.high_end-high.result c.saturating_add.result c.low_end-low.ensures c.high_end-high.ensures
    (omega (arith, ints, low, high, c.if-high-low.false))
    (c.saturating_add.ensures ∙ ap (λ (n : ℕ). min (n + 1) (2 ^ 64 - 1)) (c.abs_diff.ensures ∙ (λ i. nat_abs (high i -ℤ low i))))
