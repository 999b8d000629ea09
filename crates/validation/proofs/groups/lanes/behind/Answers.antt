use Rattle.std.proofs.Common.{refl}
use Rattle.plan.specs.View.{coordinate_of}
use Rattle.validation.proofs.StoredRowed.{rest_mapped}
use Rattle.validation.proofs.groups.lanes.behind.Goals as goal

pub returns : goal.returns
returns c = rest_mapped coordinate_of c.args.coordinates.now c.rest_of.result.now c.args.count c.args.count c.rest_of.ensures refl
