use Rattle.std.proofs.Common.{ap, ◌∙◌}
use Rattle.rules.specs.Nests.View.{coordinates_of}
use Rattle.rules.proofs.Stores.{rest_taken, mapped_over}
use Rattle.rules.proofs.nests.sides.over_of.Goals as goal

pub returns-then-count-coordinates : goal.returns-then-count-coordinates
returns-then-count-coordinates c =
    ap coordinates_of (rest_taken c.args.coordinates.now c.args.count) ∙ mapped_over c.args.coordinates.now c.args.count
