use Rattle.std.proofs.Common.{◌∙◌, ap, sym}
use Rattle.board.specs.Kept.{sample_place}
use Rattle.board.proofs.ByCell.{place_told}
use Rattle.board.proofs.kept.sample_place.Goals as goal

pub returns : goal.returns
returns c =
    let told = place_told c.args.planes c.pixel_of-pixel.result.0 c.pixel_of-pixel.result.1 c.pixel_of-pixel.ensures.pixel in
    sym told ∙ ap (sample_place c.args.planes) (sym c.pixel_of-pixel.ensures.same)
