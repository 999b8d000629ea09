use Rattle.std.proofs.Common.{◌≡◌, ℕ, ◌<◌, false}
use Rattle.std.specs.Prelude.{slice_index_or, ◌&&◌}
use Rattle.lanes.proofs.masks.connectives.and.Given as goal

abbrev pub invariant-loop-i : goal.invariant-loop-i
invariant-loop-i l = (k : ℕ) → k < l.i → slice_index_or l.out k false ≡ slice_index_or l.a k false && slice_index_or l.b k false
