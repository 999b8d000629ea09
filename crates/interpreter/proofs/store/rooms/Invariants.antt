use Rattle.std.proofs.Common.{◌≡◌, ◌≤◌, length, take, map}
use Rattle.plan.specs.Rooms.{room}
use Rattle.interpreter.specs.Buffers.Rooms.{room_of}
use Rattle.interpreter.specs.Bindings.{symbols_of}
use Rattle.interpreter.proofs.store.rooms.Given as goal

abbrev pub invariant-loop-one : goal.invariant-loop-one
invariant-loop-one l = record {
  free : length l.places ≤ l.rooms.capacity;
  count : length l.rooms.items ≡ l.one-index;
  made : map room_of l.rooms.items ≡ map (room (symbols_of l.symbols)) (take l.one-index l.places);
}
