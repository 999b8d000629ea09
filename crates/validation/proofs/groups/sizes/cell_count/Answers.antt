use Rattle.std.proofs.Common.{◌≡◌, ℕ, ◌*◌, ◌-◌, ◌^◌, min, map, take, sym, ap, ◌∙◌, arith}
use Rattle.validation.specs.Groups.Sizes.{product, extent_of}
use Rattle.validation.proofs.Products.{both_saturated, product_next}
use Rattle.validation.proofs.groups.sizes.cell_count.Goals as goal

pub loop-span-preserved : goal.loop-span-preserved
loop-span-preserved c =
    let most : ℕ = 2 ^ 64 - 1 in
    let before : ℕ = product (map extent_of (take c.loop-span.span-index c.args.region.now)) in
    let factor : c.extent_of.result ≡ min (extent_of c.span-item.result) most = c.extent_of.ensures in
    let reached : c.loop-span.total ≡ min before most = c.loop-span.invariant in
    c.saturating_mul-total.ensures
    ∙ (λ j. min (reached j * factor j) most)
    ∙ both_saturated before (extent_of c.span-item.result) most
    ∙ ap (λ (n : ℕ). min (before * n) most) (ap extent_of c.span-item.is)
    ∙ ap (λ (n : ℕ). min n most) (sym (product_next extent_of c.args.region.now c.loop-span.span-index c.span-item.result (omega (arith, c.loop-span-test.true))))
