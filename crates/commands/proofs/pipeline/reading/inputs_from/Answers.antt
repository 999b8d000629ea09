use Rattle.std.proofs.Common.{subst}
use Rattle.meaning.specs.Image.View.{Frame, HasShape, image_of, shape_of}
use Rattle.commands.proofs.pipeline.reading.inputs_from.Goals as goal

pub unreachable-requires : goal.unreachable-requires
unreachable-requires g c =
    let image = image_of c.in_ok-image.image in
    let shape = shape_of c.input.result.now.shape in
    let file = c.in_ok-image.ensures.file in
    let like = c.in_ok-image.ensures.like in
    let fit = c.read_images_fit.ensures shape file.bytes image.samples c.input.ensures.valid file.file in
    let has : HasShape shape image = record { ty = like.0; extents = like.1; count = fit.0; range = fit.1 } in
    c.in-Err.ensures.1 (subst (λ (f : Frame). HasShape f image) c.input.ensures.shape has)
