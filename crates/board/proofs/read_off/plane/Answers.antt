use Rattle.std.proofs.Common.{◌+◌, ◌*◌, ◌<◌, ℕ, List, length, arith, rules, ◌∙◌}
use Rattle.std.specs.Prelude.{slice_index}
use Rattle.board.proofs.Colours.{others_stay, place_below}
use Rattle.board.proofs.Sheets.{one_read}
use Rattle.board.proofs.read_off.plane.Goals as goal

pub loop-pixel-preserved : goal.loop-pixel-preserved
loop-pixel-preserved c =
    let x = c.args.planes in
    let i : ℕ = c.loop-pixel.pixel in
    let samples : List ℕ = c.loop-pixel.samples in
    let word : ℕ → ℕ = λ k. slice_index c.args.bits.now (c.args.start + k) in
    let below = place_below i c.args.colour x.pixels x.colours c.loop-pixel-test.true c.requires.colour in
    let room : i * x.colours + c.args.colour < length samples = omega (arith, below, c.loop-pixel.auto.samples, c.requires.fits) in
    record {
      colour = one_read samples x.colours c.args.colour i (word i) c.requires.colour word room (search rules) c.loop-pixel.invariant.colour;
      others = λ k d a_colour apart. others_stay samples x.colours c.args.colour i (word i) c.requires.colour k d a_colour apart ∙ c.loop-pixel.invariant.others k d a_colour apart;
    }
