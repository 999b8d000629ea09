use Rattle.std.proofs.Common.{◌≡◌, ◌≤◌, length, take, map}
use Rattle.interpreter.specs.Bindings.{symbols_of}
use Rattle.interpreter.specs.Rows.{listed}
use Rattle.interpreter.specs.Targets.{known_number}
use Rattle.interpreter.proofs.store.known_numbers.Given as goal

abbrev pub invariant-loop-coordinate : goal.invariant-loop-coordinate
invariant-loop-coordinate l = record {
  room : length l.coordinates ≤ l.numbers.room;
  count : length l.numbers.items ≡ l.coordinate-index;
  numbers : l.numbers ≡ listed (map (known_number (symbols_of l.symbols)) (take l.coordinate-index l.coordinates)) l.fn.numbers.room;
}
