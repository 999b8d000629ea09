use Rattle.std.proofs.Common.{◌≡◌, ◌≤◌, ℕ, List, Some}
use Rattle.std.specs.Prelude.{vec_capacity}
use Rattle.interpreter.specs.Buffers.Marks.{held_places}
use Rattle.interpreter.specs.HeldTurns.{on_own, turned}
use Rattle.interpreter.specs.declared.evaluation.lanes.Number.{Number}
use Rattle.interpreter.proofs.buffers.turning.turn_by_own.Given as goal

abbrev pub invariant-loop-turn : goal.invariant-loop-turn
invariant-loop-turn g l = record {
  held : (v w n : ℕ) (zs behind : List Number) → turned (on_own l.op v w n) zs behind l.point l.first l.second (held_places l.initial.marks l.initial.words l.initial.wides.items) l.turn
      ≡ Some (held_places l.marks l.words l.wides.items);
  capacity : vec_capacity l.initial.wides ≤ vec_capacity l.wides;
}
