use Rattle.crew.proofs.Begun.{said_here}
use Rattle.crew.proofs.alone.PreparedAlone.new.Goals as goal

pub invariant_of-result : goal.invariant_of-result
invariant_of-result g c =
    let of = c.of-pieces.ensures in
    record {
      said = said_here g.J.Run.layout g.J.Run.values c.args.checked.now c.args.inputs.now c.of-pieces.result c.pictures_are_said.ensures c.requires.layout c.requires.values c.requires.input of.same.0 of.same.1;
      pieces = of.ready;
      desk = c.in_ok-desk.ensures;
    }
