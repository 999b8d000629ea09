-- What the places of a buffer in memory say.
use Rattle.plan.specs.Rooms.{Room as RoomMeant, Straight, Wrapped}
use Rattle.interpreter.specs.declared.buffers.room.Room.{Room}
use Rattle.interpreter.specs.declared.buffers.room.Room.TheVariants as code

abbrev pub room_of : Room → RoomMeant
room_of (code.Straight origin count) = Straight origin count
room_of (code.Wrapped count) = Wrapped count
