use Rattle.sched.specs.Skeleton.{skeleton_seen}
use Rattle.sched.specs.Stored.{stored_of}
use Rattle.blocks.proofs.Planned.{dimensions_given}
use Rattle.blocks.proofs.blocks.dimensions.Goals as goal

pub returns-clause-are : goal.returns-clause-are
returns-clause-are c =
    dimensions_given (stored_of c.args.stored.now) c.args.laid.now.region.items (skeleton_seen c.args.laid.now.skeleton) c.told_dimensions.result c.told_dimensions.ensures
