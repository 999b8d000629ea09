use Rattle.std.proofs.Common.{◌≡◌, List}
use Rattle.numeric.specs.declared.ty.Ty.TheVariants.{U8}
use Rattle.interpreter.specs.Buffers.Marks.{held_places, row_held}
use Rattle.interpreter.specs.CellRows.{number_told, told_value}
use Rattle.interpreter.specs.declared.cells.NumberKind.TheVariants.{Bits}
use Rattle.interpreter.specs.declared.evaluation.lanes.Number.{Number}
use Rattle.interpreter.proofs.buffers.setting.put_low_bytes.Given as goal

abbrev pub invariant-loop-turn : goal.invariant-loop-turn
invariant-loop-turn l = (zs : List Number) →
    held_places l.marks l.bytes zs ≡ row_held (λ k. told_value Bits U8 (number_told l.numbers k)) l.place (held_places l.initial.marks l.initial.bytes zs) l.turn
