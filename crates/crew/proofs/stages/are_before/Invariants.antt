use Rattle.std.proofs.Common.{ℕ, ◌<◌, slice_index}
use Rattle.crew.proofs.stages.are_before.Given as goal

abbrev pub invariant-loop-place : goal.invariant-loop-place
invariant-loop-place l = (k : ℕ) → k < l.place → slice_index l.pieces k < l.first
