use Rattle.std.proofs.Common.{◌≡◌, ◌≤◌, Some}
use Rattle.std.specs.Prelude.{vec_capacity}
use Rattle.interpreter.specs.Buffers.Marks.{held_places}
use Rattle.interpreter.specs.HeldTurns.{turned}
use Rattle.interpreter.proofs.buffers.turning.turn_each.Given as goal

abbrev pub invariant-loop-turn : goal.invariant-loop-turn
invariant-loop-turn g l = record {
  held : turned l.operation l.numbers l.behind l.places.point.now l.places.left.now l.places.right.now (held_places l.initial.marks l.initial.words l.initial.wides.items) l.turn
      ≡ Some (held_places l.marks l.words l.wides.items);
  capacity : vec_capacity l.initial.wides ≤ vec_capacity l.wides;
}
