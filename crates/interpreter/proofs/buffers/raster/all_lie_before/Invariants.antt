use Rattle.std.proofs.Common.{◌<◌, ◌≤ℤ◌, ◌<ℤ◌, ℕ}
use Rattle.std.specs.Bool.{OnTrue}
use Rattle.interpreter.specs.Evaluation.Lanes.{number_at}
use Rattle.interpreter.proofs.buffers.raster.all_lie_before.Given as goal

abbrev pub invariant-loop-turn : goal.invariant-loop-turn
invariant-loop-turn l = OnTrue l.all ((k : ℕ) → k < l.turn → (l.origin ≤ℤ number_at l.numbers k) × (number_at l.numbers k <ℤ l.end))
