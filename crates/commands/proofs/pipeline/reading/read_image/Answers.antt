use Rattle.std.proofs.Common.{subst}
use Rattle.meaning.specs.Image.View.{Frame, HasShape, image_of, shape_of}
use Rattle.commands.proofs.pipeline.reading.read_image.Goals as goal

pub unreachable-requires : goal.unreachable-requires
unreachable-requires c =
    let image = image_of c.in_ok-image.image in
    let shape = shape_of c.input.result.now.shape in
    let like = c.in_ok-image.ensures.like in
    let fit = c.read_images_fit.ensures shape c.args.bytes.items image.samples c.input.ensures.valid c.in_ok-image.ensures.file in
    let has : HasShape shape image = record { ty = like.0; extents = like.1; count = fit.0; range = fit.1 } in
    c.in-Err.ensures.1 (subst (λ (f : Frame). HasShape f image) c.input.ensures.shape has)
