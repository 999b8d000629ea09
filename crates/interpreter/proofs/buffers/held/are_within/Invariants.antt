use Rattle.std.proofs.Common.{◌<◌, ℕ}
use Rattle.std.specs.Bool.{OnTrue}
use Rattle.numeric.specs.Wrap.{IsOf}
use Rattle.interpreter.specs.CellRows.{number_told}
use Rattle.interpreter.proofs.buffers.held.are_within.Given as goal

abbrev pub invariant-loop-turn : goal.invariant-loop-turn
invariant-loop-turn l = OnTrue l.all ((k : ℕ) → k < l.turn → IsOf l.ty (number_told l.numbers k))
