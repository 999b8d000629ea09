use Rattle.lanes.proofs.OfMasks.Low.{kept_u8}
use Rattle.lanes.proofs.masks.lane.U8Lane.wrapped.Goals as goal

pub returns : goal.returns
returns c = kept_u8 c.args.number c.ranges.number c.cast_unsigned.result c.cast_unsigned.ensures
