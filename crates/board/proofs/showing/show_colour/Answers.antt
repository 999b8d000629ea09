use Rattle.board.specs.CellBits.{bits_in}
use Rattle.board.proofs.ColourRows.{row_shown, shown_stays, ColourRow}
use Rattle.board.proofs.showing.show_colour.Goals as goal

pub returns-clause-shown : goal.returns-clause-shown
returns-clause-shown g c =
    let x = c.args.planes in
    let row : ColourRow x c.args.before c.args.first c.args.count c.args.pixel c.args.colour = record { inside = c.requires.inside; stands = c.requires.stands; one = c.requires.one } in
    row_shown x c.args.before g.J.Run.values (bits_in c.args.values) c.args.part.now c.write_each.new.bytes c.args.first c.args.given c.args.count c.args.pixel c.args.colour c.args.from row
    c.requires.row c.requires.part.0 c.requires.part.1 c.write_each.auto.bytes c.write_each.ensures

pub returns-clause-more : goal.returns-clause-more
returns-clause-more g c =
    let x = c.args.planes in
    let row : ColourRow x c.args.before c.args.first c.args.count c.args.pixel c.args.colour = record { inside = c.requires.inside; stands = c.requires.stands; one = c.requires.one } in
    shown_stays x c.args.before g.J.Run.values (bits_in c.args.values) c.args.part.now c.write_each.new.bytes c.args.first c.args.given c.args.count c.args.pixel c.args.colour c.args.from row
    c.requires.row c.requires.part.0 c.requires.part.1 c.write_each.auto.bytes c.write_each.ensures
