use Rattle.std.proofs.Common.{arith, w64, to_z, of_z, map}
use Rattle.std.proofs.lemmas.Int.{to_z-of_z}
use Rattle.interpreter.specs.Buffers.Rooms.{room_of}
use Rattle.interpreter.specs.Buffers.Raster.{place_count}
use Rattle.interpreter.proofs.Windows.{straight_lies, factor_small}
use Rattle.interpreter.proofs.buffers.stretch.straight.Goals as goal

pub place_number-requires : goal.place_number-requires
place_number-requires c = factor_small (place_count (map room_of c.args.later.now)) c.args.count _ (omega arith) c.requires

pub returns : goal.returns
returns c = λ k lt.
    straight_lies c.args.origin (to_z w64 (of_z w64 c.args.origin)) c.args.count k c.in_ok-row.row c.in_ok-start.start (map room_of c.args.later.now) c.args.others.now
    (to_z-of_z w64 c.args.origin c.ranges.origin) lt c.in_ok-start.ensures c.in_ok-row.ensures
