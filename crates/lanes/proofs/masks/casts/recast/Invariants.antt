use Rattle.std.proofs.Common.{◌≡◌, ℕ, ◌<◌}
use Rattle.std.specs.Prelude.{slice_index_or}
use Rattle.lanes.proofs.masks.casts.recast.Given as goal

abbrev pub invariant-loop-i : goal.invariant-loop-i
invariant-loop-i g l =
    (k : ℕ) (d : _) (e : _) → k < l.i → g.U.Lane.value (slice_index_or l.out k e) ≡ g.U.Lane.wrapping (g.T.Lane.value (slice_index_or l.from k d))
