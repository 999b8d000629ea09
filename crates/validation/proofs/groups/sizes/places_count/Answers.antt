use Rattle.std.proofs.Common.{◌≡◌, ℕ, ◌*◌, ◌-◌, ◌^◌, min, map, take, sym, ap, ◌∙◌, arith}
use Rattle.validation.specs.Groups.Sizes.{product, place_count}
use Rattle.validation.proofs.Products.{saturated, product_next}
use Rattle.validation.proofs.groups.sizes.places_count.Goals as goal

pub loop-one-preserved : goal.loop-one-preserved
loop-one-preserved c =
    let most : ℕ = 2 ^ 64 - 1 in
    let before : ℕ = product (map place_count (take c.loop-one.one-index c.args.places.now)) in
    let factor : c.place_count.result ≡ place_count c.one-item.result = c.place_count.ensures in
    let reached : c.loop-one.total ≡ min before most = c.loop-one.invariant in
    c.saturating_mul-total.ensures
    ∙ (λ j. min (reached j * factor j) most)
    ∙ saturated before (place_count c.one-item.result) most
    ∙ ap (λ (n : ℕ). min (before * n) most) (ap place_count c.one-item.is)
    ∙ ap (λ (n : ℕ). min n most) (sym (product_next place_count c.args.places.now c.loop-one.one-index c.one-item.result (omega (arith, c.loop-one-test.true))))
