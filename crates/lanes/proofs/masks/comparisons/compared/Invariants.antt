use Rattle.std.proofs.Common.{◌≡◌, ℕ, ◌<◌, false}
use Rattle.std.specs.Prelude.{slice_index_or}
use Rattle.lanes.proofs.masks.comparisons.compared.Given as goal

abbrev pub invariant-loop-i : goal.invariant-loop-i
invariant-loop-i g l =
    (k : ℕ) (d : _) → k < l.i → slice_index_or l.out k false ≡ g.C.Comparing.by (g.T.Lane.value (slice_index_or l.a k d)) (g.T.Lane.value (slice_index_or l.b k d))
