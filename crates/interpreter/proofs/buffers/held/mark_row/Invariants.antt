use Rattle.std.proofs.Common.{◌≡◌}
use Rattle.interpreter.specs.Buffers.SetRows.{set_row}
use Rattle.interpreter.proofs.buffers.held.mark_row.Given as goal

abbrev pub invariant-loop-turn : goal.invariant-loop-turn
invariant-loop-turn l = l.marks ≡ set_row (λ k. l.mark) l.place l.initial.marks l.turn
