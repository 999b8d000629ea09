use Rattle.std.proofs.Common.{◌<◌, ◌≤◌, ◌^◌, ℕ}
use Rattle.std.specs.Bool.{OnTrue}
use Rattle.interpreter.specs.PlaceNumbers.{place_at}
use Rattle.interpreter.proofs.buffers.raster.are_small.Given as goal

abbrev pub invariant-loop-turn : goal.invariant-loop-turn
invariant-loop-turn l = OnTrue l.all ((k : ℕ) → k < l.turn → place_at l.places k ≤ 2 ^ 31)
