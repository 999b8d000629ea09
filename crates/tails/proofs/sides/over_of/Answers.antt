use Rattle.std.proofs.Common.{ap, map, ◌∙◌}
use Rattle.plan.specs.View.{coordinate_of}
use Rattle.tails.proofs.Stores.{rest_taken, mapped_over}
use Rattle.tails.proofs.sides.over_of.Goals as goal

pub returns-then-count-coordinates : goal.returns-then-count-coordinates
returns-then-count-coordinates c =
    ap (map coordinate_of) (rest_taken c.args.coordinates.now c.args.count) ∙ mapped_over c.args.coordinates.now c.args.count
