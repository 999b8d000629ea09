use Rattle.std.proofs.Common.{◌≡◌, drop}
use Rattle.soundness.specs.Outline.Rooms.{first_room}
use Rattle.soundness.proofs.outline.rooms.room_in.Given as goal

abbrev pub invariant-loop-room : goal.invariant-loop-room
invariant-loop-room l = first_room l.rooms l.buffer ≡ first_room (drop l.room-index l.rooms) l.buffer
