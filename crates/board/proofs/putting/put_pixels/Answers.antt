use Rattle.board.proofs.Pixels.{pixels_put, pixels_stay}
use Rattle.board.proofs.putting.put_pixels.Goals as goal

pub returns-clause-put : goal.returns-clause-put
returns-clause-put g c =
    pixels_put c.args.planes g.J.Run.values c.args.bits_now.now c.args.cells.now c.args.values.now c.args.samples.now c.write_pixels.new.bytes c.args.row.first c.args.row.count
    c.requires.row c.requires.values c.write_pixels.ensures

pub returns-clause-more : goal.returns-clause-more
returns-clause-more g c =
    pixels_stay c.args.planes g.J.Run.values c.args.bits_now.now c.args.cells.now c.args.values.now c.args.samples.now c.write_pixels.new.bytes c.args.row.first c.args.row.count
    c.requires.row c.requires.values c.write_pixels.ensures
