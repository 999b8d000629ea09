use Rattle.std.proofs.Common.{◌≡◌, ◌+◌, ◌-◌, ◌*◌, ◌<◌, ℕ, List, length, arith, ◌∙◌}
use Rattle.std.specs.Prelude.{slice_index}
use Rattle.std.specs.Slots.{slots_items}
use Rattle.board.proofs.Colours.{one_more, others_stay, place_below}
use Rattle.board.proofs.shown.show_plane.Goals as goal

pub loop-pixel-preserved : goal.loop-pixel-preserved
loop-pixel-preserved c =
    let x = c.args.planes in
    let i : ℕ = c.loop-pixel.pixel in
    let samples : List ℕ = c.loop-pixel.samples in
    let word : ℕ → ℕ = λ k. slice_index (slots_items c.args.closed.now.words) (c.args.start + k) in
    let below = place_below i c.args.colour x.pixels x.colours c.loop-pixel-test.true c.requires.colour in
    let room : i * x.colours + c.args.colour < length samples = omega (arith, below, c.loop-pixel.auto.samples, c.requires.fits) in
    let found : c.word_at.result ≡ word i = c.word_at.ensures in
    let some = (c.requires.set i c.loop-pixel-test.true).0 in
    let value : (c.word_at.result - 1) + 1 ≡ word i = omega (arith, found, some) in
    record {
      colour = one_more samples x.colours c.args.colour i (c.word_at.result - 1) c.requires.colour word room value c.loop-pixel.invariant.colour;
      others = λ k d a_colour apart. others_stay samples x.colours c.args.colour i (c.word_at.result - 1) c.requires.colour k d a_colour apart ∙ c.loop-pixel.invariant.others k d a_colour apart;
    }
