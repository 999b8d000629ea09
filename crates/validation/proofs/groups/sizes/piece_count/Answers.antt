use Rattle.std.proofs.Common.{◌≡◌, ℕ, ◌*◌, ◌-◌, ◌^◌, min, take, sym, ap, ◌∙◌, arith, get_or}
use Rattle.plan.specs.Certificate.Cells.{piece_count}
use Rattle.validation.proofs.Products.{saturated}
use Rattle.validation.proofs.Allotted.{pieces_next}
use Rattle.validation.proofs.groups.sizes.piece_count.Goals as goal

pub loop-count-preserved : goal.loop-count-preserved
loop-count-preserved c =
    let most : ℕ = 2 ^ 64 - 1 in
    let xs = c.args.grid.now in
    let i = c.loop-count.count-index in
    let reached : c.loop-count.total ≡ min (piece_count (take i xs)) most = c.loop-count.invariant in
    c.saturating_mul-total.ensures
    ∙ (λ j. min (reached j * get_or xs i 0) most)
    ∙ saturated (piece_count (take i xs)) (get_or xs i 0) most
    ∙ ap (λ (n : ℕ). min n most) (sym (pieces_next xs i (omega (arith, c.loop-count-test.true))))
