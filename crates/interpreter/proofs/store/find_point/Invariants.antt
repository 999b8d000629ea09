use Rattle.std.proofs.Common.{◌≡◌, ◌+◌, ◌≤◌, length, drop, map}
use Rattle.std.specs.Prelude.{string_bytes}
use Rattle.meaning.specs.Names.{bound}
use Rattle.plan.specs.Semantics.Run.{found_target}
use Rattle.interpreter.specs.Buffers.Blocks.{memory_of}
use Rattle.interpreter.specs.Bindings.{symbols_of}
use Rattle.interpreter.specs.Pieces.{around, no_cells}
use Rattle.interpreter.specs.Targets.{target_of}
use Rattle.interpreter.proofs.Fitting.{indices_left}
use Rattle.interpreter.proofs.Storing.{points_on}
use Rattle.interpreter.proofs.store.find_point.Given as goal

abbrev pub invariant-loop-coordinate : goal.invariant-loop-coordinate
invariant-loop-coordinate l =
    let A = around l.reading.piece.now no_cells in
    let names = bound (map (λ c. string_bytes c.variable) l.reading.coordinates.now) l.reading.numbers.now in
    let m = memory_of l.reading.memory.now in
    record {
      room : length l.coordinates ≤ l.point.room;
      same : l.point.room ≡ l.fn.point.room;
      stack : l.stack ≡ l.fn.stack;
      left : length l.stack.items + indices_left l.coordinates l.coordinate-index ≤ l.stack.room;
      count : length l.point.items ≡ l.coordinate-index;
      point : found_target A names (map (target_of (symbols_of l.symbols)) l.coordinates) m
          ≡ points_on A names (map (target_of (symbols_of l.symbols)) (drop l.coordinate-index l.coordinates)) m l.point.items;
    }
