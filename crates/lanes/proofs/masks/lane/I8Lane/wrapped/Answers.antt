use Rattle.lanes.proofs.OfMasks.Low.{kept_i8}
use Rattle.lanes.proofs.masks.lane.I8Lane.wrapped.Goals as goal

pub returns : goal.returns
returns c =
    kept_i8 c.args.number c.ranges.number c.cast_unsigned.result c.cast_unsigned.ensures c.cast_signed.result (record { sfits = c.cast_signed.type_inv }) c.cast_signed.ensures
