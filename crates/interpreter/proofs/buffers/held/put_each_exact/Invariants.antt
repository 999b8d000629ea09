use Rattle.std.proofs.Common.{◌≡◌, ◌≤◌}
use Rattle.std.specs.Prelude.{vec_capacity}
use Rattle.interpreter.specs.Buffers.Marks.{held_places, row_held}
use Rattle.interpreter.specs.CellRows.{number_told, told_value}
use Rattle.interpreter.specs.declared.cells.NumberKind.TheVariants.{Exact}
use Rattle.interpreter.proofs.buffers.held.put_each_exact.Given as goal

abbrev pub invariant-loop-turn : goal.invariant-loop-turn
invariant-loop-turn l = record {
  set : held_places l.marks l.words l.wides.items
      ≡ row_held (λ k. told_value Exact l.ty (number_told l.numbers k)) l.place (held_places l.initial.marks l.initial.words l.initial.wides.items) l.turn;
  capacity : vec_capacity l.initial.wides ≤ vec_capacity l.wides;
}
