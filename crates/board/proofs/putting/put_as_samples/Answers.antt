use Rattle.std.proofs.Common.{length, arith}
use Rattle.board.specs.CellBits.{bits_in}
use Rattle.board.proofs.ColourRows.{colour_within, put_stays, row_put, ColourRow}
use Rattle.board.proofs.putting.put_as_samples.Goals as goal

pub write_each-requires-clause-room : goal.write_each-requires-clause-room
write_each-requires-clause-room g c k lt =
    let n = length c.args.bits_now.now in
    let row : ColourRow c.args.planes n c.args.first c.args.count c.args.pixel c.args.colour = record { inside = c.requires.inside; stands = c.requires.place; one = c.requires.one } in
    let below = colour_within c.args.planes n c.args.first c.args.count c.args.pixel c.args.colour row k lt in
    omega (arith, below, c.requires.fits)

pub returns-clause-put : goal.returns-clause-put
returns-clause-put g c =
    let x = c.args.planes in
    let bits = c.args.bits_now.now in
    let row : ColourRow x (length bits) c.args.first c.args.count c.args.pixel c.args.colour = record { inside = c.requires.inside; stands = c.requires.place; one = c.requires.one } in
    row_put x g.J.Run.values bits (bits_in c.args.values) c.args.samples.now c.write_each.new.bytes c.args.first c.args.from c.args.count c.args.pixel c.args.colour row c.requires.row
    c.write_each.ensures

pub returns-clause-more : goal.returns-clause-more
returns-clause-more g c =
    let x = c.args.planes in
    let bits = c.args.bits_now.now in
    let row : ColourRow x (length bits) c.args.first c.args.count c.args.pixel c.args.colour = record { inside = c.requires.inside; stands = c.requires.place; one = c.requires.one } in
    put_stays x g.J.Run.values bits (bits_in c.args.values) c.args.samples.now c.write_each.new.bytes c.args.first c.args.from c.args.count c.args.pixel c.args.colour row c.requires.row
    c.write_each.ensures
