use Rattle.lanes.proofs.OfMasks.Low.{kept_u16}
use Rattle.lanes.proofs.masks.lane.U16Lane.wrapped.Goals as goal

pub returns : goal.returns
returns c = kept_u16 c.args.number c.ranges.number c.cast_unsigned.result c.cast_unsigned.ensures
