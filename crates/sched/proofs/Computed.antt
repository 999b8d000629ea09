-- Schedules written out, computed.
use Rattle.std.proofs.Common.{refl}
use Rattle.sched.specs.Worked.{RowsStand, TilesStand, OutsideStands, LanesStand, UpdatesStand, BlocksStand}

pub rows_stand : RowsStand
rows_stand = record { in_order = refl; parallel_rows = refl; columns = refl }

pub tiles_stand : TilesStand
tiles_stand = record { guard = refl; roundup = refl; shift = refl; one_piece = refl; guard_blocks = refl; shift_blocks = refl }

pub outside_stands : OutsideStands
outside_stands = record { guard = refl; shift = refl }

pub lanes_stand : LanesStand
lanes_stand = record { guard = refl; roundup = refl; shift = refl; outer_blocks = refl }

pub updates_stand : UpdatesStand
updates_stand = record { pure = refl; scattered = refl; lanes_inside = refl; parallel_refused = refl }

pub blocks_stand : BlocksStand
blocks_stand = record { guard = refl; shift = refl; roundup = refl; blocks_of_pairs = refl }
