use Rattle.std.proofs.Common.{◌≡◌, ℕ, ◌*◌, ◌-◌, ◌^◌, min, take, get_or, sym, ap, ◌∙◌, arith}
use Rattle.plan.specs.Certificate.Cells.{piece_count}
use Rattle.piece.proofs.Products.{saturated}
use Rattle.piece.proofs.Walks.{count_next}
use Rattle.piece.proofs.places.standing.point_count.Goals as goal

pub loop-extent-preserved : goal.loop-extent-preserved
loop-extent-preserved c =
    let most : ℕ = 2 ^ 64 - 1 in
    let grid = c.args.grid.now in
    let i = c.loop-extent.extent-index in
    let before : ℕ = piece_count (take i grid) in
    let reached : c.loop-extent.count ≡ min before most = c.loop-extent.invariant in
    c.saturating_mul-count.ensures
    ∙ (λ j. min (reached j * get_or grid i 0) most)
    ∙ saturated before (get_or grid i 0) most
    ∙ ap (λ (n : ℕ). min n most) (sym (count_next grid i 0 (omega (arith, c.loop-extent-test.true))))
