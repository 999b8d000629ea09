use Rattle.std.proofs.Common.{◌≡◌, ◌*◌, ℕ, List, Some, take, drop, subst, ◌∙◌, arith}
use Rattle.interpreter.specs.SampleRows.{sampled}
use Rattle.interpreter.specs.Scanlines.{pixel_along}
use Rattle.interpreter.proofs.Pixels.{later_pixel}
use Rattle.interpreter.proofs.scanlines.pixels_among.Goals as goal

pub returns : goal.returns
returns c = λ t h z n lt is.
    let w = c.args.width in
    let colours = c.args.colours in
    let samples = sampled c.args.samples in
    let count : c.in_ok-count.count ≡ w * colours = search (arith) in
    let start : c.in_ok-start.start ≡ c.args.row * (w * colours) = search (arith) in
    let row : sampled c.in_ok-samples.samples ≡ take (w * colours) (drop (c.args.row * (w * colours)) samples) =
    c.in_ok-samples.ensures.same ∙ (λ i. take (count i) (drop (start i) samples)) in
    later_pixel t w h colours c.args.row c.args.colour samples z n lt c.requires (subst (λ (r : List ℕ). pixel_along colours c.args.colour r z ≡ Some n) row is)
