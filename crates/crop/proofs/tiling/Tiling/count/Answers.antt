use Rattle.std.proofs.Common.{◌<◌, ◌≤◌, ◌^◌, arith}
use Rattle.crop.proofs.Grids.{count_fits, count_le}
use Rattle.crop.proofs.tiling.Tiling.count.Goals as goal

pub overflow_mul-result : goal.overflow_mul-result
overflow_mul-result c =
    let columns : c.side_count.result ≤ c.args.self.width = rw (c.side_count.ensures) (count_le c.args.self.width c.args.self.tile_width c.requires.wide) in
    let rows : c.side_count-2.result ≤ c.args.self.height = rw (c.side_count-2.ensures) (count_le c.args.self.height c.args.self.tile_height c.requires.high) in
    let wide : c.args.self.width < 2 ^ 32 = omega (arith, c.well_formed) in
    let high : c.args.self.height < 2 ^ 32 = omega (arith, c.well_formed) in
    omega (arith, count_fits c.args.self.width c.args.self.height c.side_count.result c.side_count-2.result wide high columns rows)
