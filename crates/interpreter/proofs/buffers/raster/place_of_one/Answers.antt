use Rattle.std.proofs.Common.{ℤ, sym, ap, ◌∙◌, w64}
use Rattle.std.proofs.lemmas.Int.{to_z-of_z}
use Rattle.plan.specs.Rooms.{seat}
use Rattle.interpreter.specs.Buffers.Rooms.{room_of}
use Rattle.interpreter.proofs.FewRooms.{lies_alone}
use Rattle.interpreter.proofs.buffers.raster.place_of_one.Goals as goal

pub returns : goal.returns
returns c =
    let room = room_of c.args.room.now in
    let z : ℤ = c.args.coordinate in
    lies_alone room z c.in_ok-seat.seat (ap (seat room) (sym (to_z-of_z w64 z c.ranges.coordinate)) ∙ sym c.seat.ensures ∙ c.in_ok-seat.was)
