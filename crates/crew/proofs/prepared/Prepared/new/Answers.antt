use Rattle.crew.proofs.Begun.{said_here}
use Rattle.crew.proofs.prepared.Prepared.new.Goals as goal

pub in_stages-requires-clause-said : goal.in_stages-requires-clause-said
in_stages-requires-clause-said g c =
    let of = c.of-pieces.ensures in
    said_here g.J.Run.layout g.J.Run.values c.args.checked.now c.args.inputs.now c.of-pieces.result c.pictures_are_said.ensures c.requires.layout c.requires.values c.requires.input of.same.0 of.same.1

pub at_board-requires-clause-said : goal.at_board-requires-clause-said
at_board-requires-clause-said g c =
    let of = c.of-pieces.ensures in
    said_here g.J.Run.layout g.J.Run.values c.args.checked.now c.args.inputs.now c.of-pieces.result c.pictures_are_said.ensures c.requires.layout c.requires.values c.requires.input of.same.0 of.same.1
