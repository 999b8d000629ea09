use Rattle.std.proofs.Common.{◌≡◌, ◌∙◌, ℕ, List, [], ◌∷◌, ◌++◌, map, arith, sym, ap}
use Rattle.std.specs.List.{range_with_len}
use Rattle.std.proofs.lemmas.List.FromFn.{map-range_with_len_more}
use Rattle.meaning.specs.Image.Raster.{raster_point, sample_count}
use Rattle.meaning.specs.Image.View.{Frame}
use Rattle.board.specs.Layout.{Layout, shown_cell, samples_in}
use Rattle.board.proofs.rows.shown_cells.Goals as goal

pub loop-place-preserved : goal.loop-place-preserved
loop-place-preserved g c =
    let plan : Layout = g.S.Source.layout c.args.source.now in
    let i : ℕ = c.loop-place.place in
    let cell : c.cell_at.result ≡ shown_cell plan i =
    c.cell_at.ensures ∙ ap (λ (xs : List ℕ). plan.cell_of (raster_point xs i)) (c.as_slice.ensures.value ∙ ap (λ (f : Frame). f.extents) c.shape-shape.ensures) in
    c.in_ok-push.ensures.items ∙ (λ k. c.loop-place.invariant k ++ cell k ∷ []) ∙ sym (map-range_with_len_more (λ n. shown_cell plan n) 0 i i (omega arith))

pub returns : goal.returns
returns g c =
    let plan : Layout = g.S.Source.layout c.args.source.now in
    let count : c.sample_count-count.result ≡ samples_in plan = c.sample_count-count.ensures ∙ ap (λ (f : Frame). sample_count f.extents) c.shape-shape.ensures in
    let end : c.loop-place.place ≡ samples_in plan = omega (arith, c.loop-place-test.false, c.loop-place.auto.place-end, count) in
    c.loop-place.invariant ∙ ap (λ n. map (λ m. shown_cell plan m) (range_with_len 0 n)) end
