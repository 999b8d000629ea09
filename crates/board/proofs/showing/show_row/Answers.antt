use Rattle.std.proofs.Common.{◌-◌, ◌<◌, arith}
use Rattle.board.specs.Kept.{in_planes}
use Rattle.board.proofs.ByCell.{row_inside}
use Rattle.board.proofs.showing.show_row.Goals as goal

pub overflow_mul-place : goal.overflow_mul-place
overflow_mul-place g c =
    let inside : c.args.first - c.args.before < in_planes c.args.planes = omega (arith, c.requires.inside, c.if-count-eq0.false, c.if-first-before.false) in
    let below = row_inside c.args.planes (c.args.first - c.args.before) c.pixel_of-pixel.result.0 c.pixel_of-pixel.result.1 inside c.pixel_of-pixel.ensures.same c.pixel_of-pixel.ensures.pixel in
    omega (arith, below, c.requires.short)

pub overflow_add-place : goal.overflow_add-place
overflow_add-place g c =
    let inside : c.args.first - c.args.before < in_planes c.args.planes = omega (arith, c.requires.inside, c.if-count-eq0.false, c.if-first-before.false) in
    let below = row_inside c.args.planes (c.args.first - c.args.before) c.pixel_of-pixel.result.0 c.pixel_of-pixel.result.1 inside c.pixel_of-pixel.ensures.same c.pixel_of-pixel.ensures.pixel in
    omega (arith, below, c.requires.short)
