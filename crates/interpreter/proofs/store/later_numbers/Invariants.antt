use Rattle.std.proofs.Common.{◌≡◌, ◌≤◌, length, take, map}
use Rattle.plan.specs.Symbols.{bind}
use Rattle.interpreter.specs.Bindings.{symbols_of}
use Rattle.interpreter.specs.Rows.{listed}
use Rattle.interpreter.specs.Targets.{known_number}
use Rattle.interpreter.proofs.store.later_numbers.Given as goal

abbrev pub invariant-loop-index : goal.invariant-loop-index
invariant-loop-index l = record {
  room : length l.coordinates ≤ l.later.room;
  count : length l.later.items ≡ l.index;
  numbers : l.later ≡ listed (map (known_number (bind (symbols_of l.symbols) l.second.symbol l.second.value l.second.first)) (take l.index l.coordinates)) l.fn.later.room;
}
