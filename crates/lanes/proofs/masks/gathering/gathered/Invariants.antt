use Rattle.std.proofs.Common.{◌≡◌, ℕ, ◌<◌}
use Rattle.std.specs.Prelude.{slice_index, slice_index_or}
use Rattle.lanes.proofs.masks.gathering.gathered.Given as goal

abbrev pub invariant-loop-i : goal.invariant-loop-i
invariant-loop-i g l = (k : ℕ) (d : _) → k < l.i → slice_index_or l.out k d ≡ slice_index_or l.source (slice_index l.at k) d
