use Rattle.std.proofs.Common.{◌≡◌, ℕ, ◌<◌, false, if◌then◌else◌}
use Rattle.std.specs.Prelude.{slice_index_or}
use Rattle.lanes.proofs.masks.choices.chosen.Given as goal

abbrev pub invariant-loop-i : goal.invariant-loop-i
invariant-loop-i g l =
    (k : ℕ) (d : _) → k < l.i → slice_index_or l.out k d ≡ (if slice_index_or l.mask k false then slice_index_or l.yes k d else slice_index_or l.no k d)
